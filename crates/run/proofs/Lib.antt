-- Laws, and the theorem on texts.
--     Joined     from what reading, the job and writing promise to the promise of a run
--     Whole      the whole reply stands at the head of a slice of 8,192 bytes
--     Said       the number on a reply's first line
--     Built      the number of a build that a text means, by crates/job's theorems
--     Theorem    the number of a text
--     Failures   what is printed after 7
--     Demands    the page to read first, proved
pub mod Joined
pub mod Whole
pub mod Said
pub mod Built
pub mod Theorem
pub mod Failures
pub mod Demands
