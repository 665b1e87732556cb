pub mod Normal
pub mod Half
pub mod Inside
pub mod Promise
pub mod Examples
