pub mod Kinds
pub mod Fields
pub mod Equations
pub mod Measures
