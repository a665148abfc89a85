pub mod Steps
pub mod Lines
pub mod Negotiated
pub mod Reports
pub mod Laws
