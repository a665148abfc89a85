pub mod Rule
pub mod Steps
pub mod Laws
pub mod Ends
pub mod HandFields
pub mod Passes
pub mod ReachFields
