pub mod Worked
pub mod Heads
pub mod Unique
