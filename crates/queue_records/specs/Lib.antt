pub mod Entries
pub mod Records
pub mod Queue
pub mod Order
pub mod Marks
pub mod Making
