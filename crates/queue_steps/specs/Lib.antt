pub mod Asking
pub mod Step
