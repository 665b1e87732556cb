pub mod Within
pub mod Given
pub mod Every
pub mod Chained
pub mod Wholes
pub mod Looked
pub mod Rebuilt
pub mod AtMostTwo
