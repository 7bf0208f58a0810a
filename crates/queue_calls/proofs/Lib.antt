pub mod Slots
pub mod Unique
