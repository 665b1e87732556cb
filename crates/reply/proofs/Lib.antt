-- Laws, and the theorems on replies.
--     Laws       what is laid one after another is laid as a whole
--     Written    what laying all the bytes from the start comes to
--     Short      no reply is longer than 8,192 bytes
--     Bare       a job that is not fitted prints no coordinates
--     Spelled    numbers are spelled as a job spells them
--     Printed    what is printed after each number
pub mod Laws
pub mod Written
pub mod Short
pub mod Bare
pub mod Spelled
pub mod Printed
