-- What the fit of a group is, and what its calls promise.
--     Frames     a group set out for its fit
--     Fits       equations.rs, `fit`, `freedom`, `conflicts`
--     Promise    what the calls answer and leave in the areas
--     Inside     what the promises of the private functions are said by
--     Groups     what a group of a build comes to
--     Own        demand 3 of two builds
--     Examples   two builds that share a group
--     Table      document 01's cases (a) to (l)
pub mod Frames
pub mod Fits
pub mod Promise
pub mod Inside
pub mod Groups
pub mod Own
pub mod Examples
pub mod Table
