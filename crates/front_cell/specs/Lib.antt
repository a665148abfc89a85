pub mod Front
pub mod Rule
pub mod Steps
pub mod Laws
pub mod Ends
pub mod CellFields
pub mod WriterFields
pub mod ReaderFields
