pub mod Counts
pub mod Counting
pub mod Ranks
pub mod Fields
pub mod Summaries
