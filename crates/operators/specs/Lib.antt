pub mod Unaffected
pub mod Histories
pub mod One
