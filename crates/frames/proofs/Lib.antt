pub mod FrameLaws
pub mod FlagLaws
pub mod ConfigLaws
pub mod GrantLaws
pub mod HeldLaws
pub mod Trips
pub mod Unique
