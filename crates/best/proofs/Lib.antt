-- the list
pub mod Bound
-- the bound
pub mod Half
-- that it is the least, and what can be lost
pub mod Cross
pub mod Least
pub mod Worked
-- what they rest on
pub mod Counting
pub mod Listed
pub mod Alike
