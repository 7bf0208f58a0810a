pub mod Recorded
pub mod Replay
pub mod Serving
pub mod Kept
