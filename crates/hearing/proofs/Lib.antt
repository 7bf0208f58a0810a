pub mod Hearing
pub mod Unique
