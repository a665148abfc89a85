pub mod Images
pub mod Laws
pub mod Running
pub mod Showing
