pub mod Rules
pub mod StoresAndReads
