pub mod Root
pub mod Rounded
pub mod Examples
pub mod Whole
