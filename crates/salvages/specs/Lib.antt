pub mod Salvage
pub mod Whole
