mod Halves
mod Patterns
mod Bounded
mod Whole
pub mod Order
mod Place
mod Normal
pub mod Value
pub mod Correct
