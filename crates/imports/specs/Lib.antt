pub mod Cut
pub mod Import
pub mod Passes
