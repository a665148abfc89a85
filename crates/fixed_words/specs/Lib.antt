pub mod Digits
pub mod Laws
pub mod Literals
pub mod Operations
pub mod Texts
pub mod Types
pub mod formers
