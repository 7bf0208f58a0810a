pub mod Putting
pub mod Digits
pub mod Longest
pub mod Unique
pub mod Worked
