pub mod Choice
pub mod Scan
pub mod Within
pub mod Live
pub mod Join
