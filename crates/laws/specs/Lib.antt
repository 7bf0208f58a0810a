pub mod Steps
pub mod Sets
pub mod Tests
pub mod Parts
pub mod Bytes
