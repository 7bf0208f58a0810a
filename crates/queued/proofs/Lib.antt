-- one call
pub mod Stored
pub mod Added
pub mod Heads
pub mod Moved
pub mod Orders
pub mod Fresh
pub mod Calls
pub mod Outputs
-- any history of calls
pub mod Histories
pub mod Totals
pub mod Bound
-- calls of the C form
pub mod CForm
