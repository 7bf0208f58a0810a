pub mod Count
pub mod Slot
