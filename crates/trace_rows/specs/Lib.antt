pub mod Bounds
pub mod Faults
pub mod Lines
pub mod Passing
pub mod Reports
pub mod Sums
