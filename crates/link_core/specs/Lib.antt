pub mod Inner
pub mod Joined
pub mod KnownSteps
pub mod NodeStates
pub mod Noted
pub mod Ready
