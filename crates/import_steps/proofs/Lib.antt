pub mod Rooms
pub mod Fitting
pub mod Over
pub mod Placing
pub mod Unique
