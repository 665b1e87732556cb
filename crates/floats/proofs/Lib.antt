pub mod Values
pub mod Sign
pub mod Largest
