pub mod Scopes
pub mod Expressions
pub mod StepLines
pub mod UnitPrograms
pub mod Calls
pub mod Laws
