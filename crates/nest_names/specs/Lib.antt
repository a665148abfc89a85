pub mod Flattening
pub mod GroupPorts
pub mod Tables
