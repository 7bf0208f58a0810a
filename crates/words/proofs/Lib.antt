pub mod BytesAt
pub mod CheckLaws
pub mod LibraryBytes
pub mod Unique
