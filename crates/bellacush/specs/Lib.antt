pub mod Fresh
pub mod Slot
