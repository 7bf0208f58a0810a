pub mod Salvages
pub mod Behind
pub mod Shorter
pub mod Calls
pub mod Own
