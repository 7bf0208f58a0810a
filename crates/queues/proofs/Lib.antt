pub mod Partings
pub mod Grants
pub mod Moves
pub mod Serves
pub mod Unique
