pub mod MismatchLemmas
pub mod GuessLemmas
