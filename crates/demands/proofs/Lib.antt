-- the list
pub mod Demands
-- the slot call on frames
pub mod SlotShare
pub mod SlotConnections
pub mod OneHost
pub mod SlotGrants
pub mod SlotRefusal
pub mod SlotServed
pub mod Started
pub mod Asked
pub mod Resent
pub mod LentHistory
-- the call on tables
pub mod Share
pub mod Connections
pub mod Refusal
-- the rules
pub mod Choice
pub mod Rules
pub mod Qen
pub mod Rounds
pub mod NoneLeft
pub mod Hosts
pub mod Stage
-- what they rest on
pub mod SlotCalls
pub mod SlotHosts
pub mod Small
pub mod Progress
pub mod Cleared
pub mod Turns
pub mod Histories
pub mod Lawful
pub mod Keeps
pub mod Join
pub mod Calls
