-- What the room's contracts are said by.
--     Scale      the points in the coordinates of the equations
--     Worst      the residuals there, and the largest
--     Inside     what the private functions promise
--     Examples   three builds of one equation
pub mod Scale
pub mod Worst
pub mod Inside
pub mod Examples
