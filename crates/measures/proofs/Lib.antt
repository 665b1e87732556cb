-- Laws.
--     First   the first of the residuals that the code hands out
--     Head    the head of a list while measures go there
pub mod First
pub mod Head
