pub mod Share
pub mod KeptOut
pub mod Crowd
