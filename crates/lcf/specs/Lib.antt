pub mod Advance
pub mod Slot
