pub mod Laws
pub mod NestPorts
pub mod NestTrace
pub mod SoundNests
pub mod WorkedNest
