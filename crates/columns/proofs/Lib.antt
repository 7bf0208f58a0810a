pub mod Digits
pub mod Values
pub mod Narrowing
pub mod Choosing
pub mod Turned
pub mod Winning
pub mod Agreement
pub mod Unique
