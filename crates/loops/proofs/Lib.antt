-- Laws that the proofs of every room go by.
--     Keeps     what every turn of a counting loop keeps
--     Writes    what a slice holds while a loop writes it from the front
--     Picks     a value that a test picks
--     Cells     the places of a table that lies in a slice row after row
--     Parts     a part of a slice that is lent and comes back
--     Turning   the laws of a loop's turns and of its end
--     Both      two loops side by side
--     Flat      a list for each element of a list, one after another
pub mod Keeps
pub mod Writes
pub mod Picks
pub mod Cells
pub mod Parts
pub mod Turning
pub mod Both
pub mod Flat
