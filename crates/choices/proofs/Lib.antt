pub mod Choices
pub mod Ports
pub mod Unique
