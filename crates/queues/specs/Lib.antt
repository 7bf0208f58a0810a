pub mod Parting
pub mod Serving
