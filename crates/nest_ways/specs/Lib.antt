pub mod Reaching
pub mod Sets
pub mod Walking
