pub mod Entries
pub mod Found
pub mod Choices
pub mod Uses
pub mod Systems
