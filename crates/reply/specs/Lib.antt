-- What the room's contracts and its theorems are said by.
--     Figures    how a number is spelled, with the byte after it
--     Lines      the lines of a reply
--     Reply      the reply, a definition of the answer and the output
--     Promise    what `write` promises
--     Laid       bytes one after another in a lent slice, which the contracts inside are said by
--     Theorems   what is printed after each number; how long a reply is at most, what it does not carry, how its numbers are spelled
--     Cases      document 01's example and others, worked
pub mod Figures
pub mod Lines
pub mod Reply
pub mod Promise
pub mod Laid
pub mod Theorems
pub mod Cases
