pub mod Bounded
pub mod Held
pub mod Given
