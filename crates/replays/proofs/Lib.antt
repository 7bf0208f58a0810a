pub mod Replaying
pub mod Unique
