pub mod Records
pub mod Trace
pub mod Imports
pub mod Worked
