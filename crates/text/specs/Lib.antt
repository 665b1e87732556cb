pub mod Lines
pub mod Items
pub mod Reader
pub mod Given
pub mod Cases
