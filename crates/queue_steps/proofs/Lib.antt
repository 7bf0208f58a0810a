pub mod Pairs
pub mod Requests
pub mod Serves
pub mod Unique
