pub mod Fits
pub mod Trips
pub mod Unique
