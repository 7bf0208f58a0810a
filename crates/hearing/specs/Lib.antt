pub mod Heard
pub mod Votes
