pub mod Answer
pub mod Owners
pub mod Ready
pub mod Modes
pub mod Tables
pub mod Due
pub mod Served
