-- Laws that the functions' proofs go by, and the theorem.
--     Heads       numbers pushed one after another to the head of an array
--     Pushes      the turns of the loops that push
--     Starts      the loop that puts where each point starts
--     Backs       the loop that puts each point back at its size
--     Theorem     the tables of a group are searches among its points and its free coordinates
--     Searching   a table that is filled from a list that rises is a search in the list
--     Readings    lists at the head of an array are read back, and where a fit starts
pub mod Heads
pub mod Pushes
pub mod Starts
pub mod Backs
pub mod Theorem
pub mod Searching
pub mod Readings
