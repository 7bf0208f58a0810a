pub mod Given
pub mod Numbers
pub mod Owners
pub mod Seen
pub mod Started
pub mod Unique
