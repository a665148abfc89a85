pub mod Expressions
pub mod Laws
pub mod LineReading
pub mod LineClass
