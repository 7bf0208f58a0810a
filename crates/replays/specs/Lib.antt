pub mod Replay
pub mod Tables
