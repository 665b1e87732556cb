-- The form of a job's text as a grammar, apart from how it is read.
--     Job        a job as it is written
--     Printed    its text
--     Meaning    its build
--     Form       what the reader promises
--     Example    document 01's example
--     Lines      a line of each kind and of each measure
pub mod Job
pub mod Printed
pub mod Meaning
pub mod Form
pub mod Example
pub mod Lines
