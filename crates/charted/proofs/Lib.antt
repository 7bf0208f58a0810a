pub mod Waiting
pub mod Resent
pub mod Calls
