pub mod Sound
pub mod Unique
