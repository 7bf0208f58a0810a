pub mod Fate
pub mod Judged
