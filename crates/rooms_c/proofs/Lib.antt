pub mod Joined
pub mod Named
