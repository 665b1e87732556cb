pub mod Places
pub mod Wholes
pub mod Floating
pub mod Letters
pub mod Printed
