pub mod Longest
pub mod Told
pub mod Unique
pub mod Worked
