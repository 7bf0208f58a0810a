pub mod Sealing
pub mod Writer
pub mod Parts
