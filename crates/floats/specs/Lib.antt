pub mod Only
pub mod Ops
pub mod Magnitude
pub mod Lists
pub mod Largest
