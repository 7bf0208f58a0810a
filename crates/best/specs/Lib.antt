pub mod Pairs
pub mod Best
pub mod Cross
