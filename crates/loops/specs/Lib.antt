-- What the contracts of every crate say loops by.
--     Turns     loops that count, and loops over a slice
--     Numbers   document 01's numbers by name, and what an answer says by them
pub mod Turns
pub mod Numbers
