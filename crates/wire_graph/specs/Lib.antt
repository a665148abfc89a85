pub mod Sorting
pub mod Wiring
pub mod Origins
pub mod Routing
pub mod Faults
