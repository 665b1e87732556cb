-- What the room's contracts are said by.
--     Lists      numbers at the head of an array; the points and the equations of a group
--     Movable    which points are fixed, and a group's free coordinates
--     Tables     a number's place in a list, from a filled table
--     Searched   a search in the list, which such a table is: `binary_search` with its fallback
--     Scale      `scaled`, where a fit starts, and `unscale`
--     Examples   worked: a group of three of five points; document 01's (l)
pub mod Lists
pub mod Movable
pub mod Tables
pub mod Searched
pub mod Scale
pub mod Examples
