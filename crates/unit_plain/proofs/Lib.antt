pub mod ChoiceLaws
pub mod LoopLaws
pub mod EventPorts
