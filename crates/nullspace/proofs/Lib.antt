-- From the rows of one list, which the code has, to the lists of lists that the definition has.
--     Built      rows that are read and written one after another
--     Flat       rows of n numbers as a list of lists, and flattened
--     Zips       loops by index as what they come to
--     Reflects   a row reflected
--     Swaps      two rows changed
--     Turned     a turn
--     Laid       the whole: the rank, the reflectors and the basis
--     Checking   the table for a call on a bare matrix, case by case
pub mod Built
pub mod Flat
pub mod Zips
pub mod Reflects
pub mod Swaps
pub mod Turned
pub mod Laid
pub mod Checking
