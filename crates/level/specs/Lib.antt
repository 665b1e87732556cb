-- What the room's contracts and its theorems are said by.
--     Fixed      which points are fixed
--     Parents    the parents of one axis: `find` and the joins
--     Level      `level`: the sweeps over the equations and over the points
--     Runs       what levelling comes to, apart from how the roots are found
--     Examples   document 01's (e) and (f)
pub mod Fixed
pub mod Parents
pub mod Level
pub mod Runs
pub mod Examples
