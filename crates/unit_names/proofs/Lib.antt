pub mod Costs
pub mod EventOutputs
pub mod FirstPlaces
pub mod NodesByNames
pub mod UnitTables
