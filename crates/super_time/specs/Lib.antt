pub mod Laws
pub mod LocalTime
pub mod Seconds
