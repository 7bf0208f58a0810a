pub mod Adding
pub mod Counting
