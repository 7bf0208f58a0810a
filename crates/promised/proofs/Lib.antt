-- the list
pub mod Promises
-- the C call
pub mod Contract
pub mod Histories
pub mod Pinned
pub mod Worked
-- what they rest on
pub mod Calls
pub mod States
pub mod Tables
