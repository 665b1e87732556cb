pub mod Mirrors
pub mod Halves
