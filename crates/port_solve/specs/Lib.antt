pub mod Solved
pub mod Sound
pub mod Steps
