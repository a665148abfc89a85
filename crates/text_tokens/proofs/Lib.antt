pub mod FrontLemmas
pub mod LineLemmas
pub mod NumberLemmas
pub mod Spelled
pub mod TableLemmas
pub mod TokenLemmas
