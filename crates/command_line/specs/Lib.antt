pub mod Commands
pub mod Generations
pub mod Laws
pub mod Options
pub mod Ranges
pub mod Words
pub mod WorkedWords
