pub mod Adds
pub mod Counts
pub mod Unique
