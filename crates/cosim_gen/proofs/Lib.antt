pub mod Turns
pub mod Names
pub mod UnitLines
pub mod Ports
pub mod Before
pub mod Lines
pub mod Outputs
pub mod Printing
