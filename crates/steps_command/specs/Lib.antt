pub mod StepAnswers
pub mod Reporting
pub mod Laws
