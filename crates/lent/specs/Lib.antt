pub mod Filled
pub mod Writer
