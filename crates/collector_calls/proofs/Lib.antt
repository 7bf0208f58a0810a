pub mod Asking
pub mod Told
pub mod Ledgers
pub mod Unique
