pub mod Guess
pub mod Mismatch
