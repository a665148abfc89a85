pub mod Faults
pub mod Fitting
pub mod Keeps
pub mod Laws
pub mod Lengths
pub mod Plans
pub mod Shown
