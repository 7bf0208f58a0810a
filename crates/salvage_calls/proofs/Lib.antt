pub mod Salvages
pub mod Worked
pub mod Unique
