pub mod Code
pub mod Sweeps
pub mod Jobs
