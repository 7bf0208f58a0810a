pub mod Taking
pub mod Unique
