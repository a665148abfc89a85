pub mod Decoding
pub mod Exchanges
pub mod Rounds
pub mod Settled
pub mod ShownRows
pub mod Shown
pub mod Wire
