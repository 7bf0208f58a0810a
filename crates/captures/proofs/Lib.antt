pub mod Headers
pub mod Unique
