-- the ledger
pub mod Counts
pub mod Events
pub mod Ledger
pub mod Lent
-- histories
pub mod History
pub mod Shows
