pub mod Added
pub mod Laws
pub mod Upgrades
pub mod Worked
