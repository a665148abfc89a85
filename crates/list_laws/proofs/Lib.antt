pub mod Lists
pub mod Members
pub mod Options
pub mod Pairs
pub mod Truths
pub mod Vectors
