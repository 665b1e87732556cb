-- What the contracts of `slopes` say; the rows of each kind, entries and all, are those of `rows`.
--     Dense      a row's entries in a dense row, and the rows of a list of equations one after another
--     Arms       how the code lays the rows of one equation
pub mod Dense
pub mod Arms
