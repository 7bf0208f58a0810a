pub mod Shelf
pub mod History
pub mod Totals
pub mod CShelf
