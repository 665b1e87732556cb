-- What the contracts of `rows` say.
--     Located    where a point, and the direction of a line, is at given coordinates
--     Entries    one row: its value and its entries; how the code holds values
--     Kinds      the rows of each kind, side by side with the Rust's arms
--     Ends       the lines that an equation names, and its rows where their ends are given
--     Column     the residuals of a list of equations one after another
pub mod Located
pub mod Entries
pub mod Kinds
pub mod Ends
pub mod Column
