pub mod Cycles
pub mod FlatReading
pub mod GroupTests
pub mod Laws
pub mod NestRules
pub mod Searching
