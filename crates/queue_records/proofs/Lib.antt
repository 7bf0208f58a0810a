pub mod Lists
pub mod Meeting
pub mod Cells
pub mod Heads
pub mod Ordered
pub mod Pools
pub mod Unique
