-- the list
pub mod Diagonals
-- the share
pub mod Shares
-- how long a pair can be kept out
pub mod KeptOut
pub mod Crowd
pub mod Starve
-- what they rest on
pub mod Diagonal
pub mod Aligned
