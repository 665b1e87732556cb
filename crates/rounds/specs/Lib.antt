pub mod Solve
pub mod Holds
pub mod Problem
pub mod Inside
pub mod Reasons
pub mod Promise
