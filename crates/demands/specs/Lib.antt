-- the slot call on frames
pub mod SlotCall
pub mod Block
pub mod SlotShare
pub mod Told
pub mod LentCall
pub mod OneHost
pub mod Numbers
-- the call on tables
pub mod Call
pub mod Share
pub mod Origin
pub mod Choice
pub mod Rounds
pub mod Progress
pub mod Refusal
-- any kind of call
pub mod History
