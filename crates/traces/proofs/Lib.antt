pub mod TraceLaws
pub mod Own
pub mod Cases
pub mod Unique
