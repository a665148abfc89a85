pub mod Columns
pub mod Lines
pub mod TraceText
pub mod Writers
