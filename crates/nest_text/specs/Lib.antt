pub mod Laws
pub mod NestLines
pub mod Nests
pub mod Reading
