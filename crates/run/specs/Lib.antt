-- What a run promises, and the theorem on texts.
--     Demands    the page to read first: 01's three demands and its table as one statement
--     Promise    the reply to a text, and what is left in the areas
--     Texts      which number a text ends in
--     Failures   what is printed after 7
pub mod Promise
pub mod Texts
pub mod Failures
pub mod Demands
