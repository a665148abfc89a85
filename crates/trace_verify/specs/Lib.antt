pub mod Comparing
pub mod Laws
pub mod Parting
pub mod TraceLines
pub mod Verdicts
pub mod Verifying
