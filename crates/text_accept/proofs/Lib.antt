pub mod Acceptance
pub mod CycleLines
pub mod SourceCycles
