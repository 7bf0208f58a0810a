pub mod Fresh
pub mod Trips
pub mod Slots
pub mod Unique
