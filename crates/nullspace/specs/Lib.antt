pub mod Steps
pub mod Layout
pub mod Promise
pub mod Examples
