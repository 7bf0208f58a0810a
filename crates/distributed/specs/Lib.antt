pub mod Distributed
pub mod Offers
