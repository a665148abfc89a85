pub mod Fleets
pub mod Members
