pub mod Checking
pub mod Columns
pub mod Rows
pub mod Scales
pub mod Reasons
pub mod Lesser
