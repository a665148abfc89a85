pub mod AfterStep
pub mod Courses
pub mod Laws
pub mod Limits
pub mod Steps
