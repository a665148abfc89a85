pub mod PieceLemmas
pub mod WriteLemmas
mod MemoryLemmas
mod ReadLemmas
