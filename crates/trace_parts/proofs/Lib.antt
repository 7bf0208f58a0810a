pub mod BodyLaws
pub mod ContentsLaws
pub mod ContentsOwn
pub mod Defaults
pub mod Shown
pub mod Unique
