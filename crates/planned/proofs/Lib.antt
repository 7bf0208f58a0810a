pub mod Begun
pub mod Unplanned
pub mod Unique
