pub mod Trials
pub mod Turn
pub mod Column
pub mod Holding
pub mod Around
pub mod Begins
pub mod Reasons
