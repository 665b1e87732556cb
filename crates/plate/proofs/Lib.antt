-- Laws and theorems.
--     Sweeping   the loop over the equations
--     Brought    each point stands at (coordinate − centre) / size
--     Describes  worst describes the plate
pub mod Sweeping
pub mod Brought
pub mod Describes
