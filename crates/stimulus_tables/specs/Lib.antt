pub mod Laws
pub mod Reading
pub mod Records
pub mod Stimuli
pub mod TableFields
pub mod TableSystems
pub mod Tables
