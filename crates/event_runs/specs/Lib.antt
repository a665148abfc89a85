pub mod EventPorts
pub mod EventRests
pub mod EventRuns
pub mod EventTrace
pub mod Events
pub mod Laws
pub mod Offers
pub mod Readings
