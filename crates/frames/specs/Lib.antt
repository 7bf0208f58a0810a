pub mod Width
pub mod Frame
pub mod Flags
pub mod Config
pub mod Grant
pub mod Held
pub mod Part
