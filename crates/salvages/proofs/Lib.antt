pub mod Chosen
pub mod KeptSound
pub mod Judgements
pub mod Wholes
pub mod Puts
pub mod Writes
pub mod Answers
pub mod Unique
