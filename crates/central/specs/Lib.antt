pub mod Central
pub mod Diagonal
