pub mod Transpose
pub mod Planes
pub mod Serving
