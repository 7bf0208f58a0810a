-- the list
pub mod Theorems
-- what is imported
pub mod Imports
pub mod Wrap
pub mod Captured
pub mod Resent
pub mod Kept
-- what they rest on
pub mod Calls
pub mod Runs
pub mod Cutting
pub mod Told
pub mod Sorted
pub mod Turns
