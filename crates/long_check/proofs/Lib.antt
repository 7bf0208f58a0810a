pub mod Linear
pub mod Filling
pub mod Several
pub mod Unique
