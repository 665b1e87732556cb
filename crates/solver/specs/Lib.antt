pub mod Sums
pub mod Steps
pub mod Reasons
pub mod Lesser
pub mod Promise
pub mod Inside
pub mod Examples
