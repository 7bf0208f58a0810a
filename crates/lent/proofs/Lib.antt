pub mod Fills
pub mod Writes
pub mod Unique
