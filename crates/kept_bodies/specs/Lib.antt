pub mod Keeps
pub mod ByBody
