pub mod Checks
pub mod Rule
