pub mod Call
pub mod Share
pub mod Demanded
