pub mod Asked
pub mod Begun
pub mod Grants
pub mod Hosts
pub mod Step
pub mod Told
pub mod Unanswered
