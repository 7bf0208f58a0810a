pub mod Cases
pub mod Slots
pub mod Unique
