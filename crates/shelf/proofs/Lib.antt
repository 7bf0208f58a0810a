pub mod Asking
pub mod Granting
pub mod Hearing
pub mod Refusals
pub mod Stepping
pub mod Unawaited
pub mod Unique
