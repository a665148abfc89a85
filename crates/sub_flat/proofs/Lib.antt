pub mod JudgeLaws
pub mod JudgedOnce
pub mod LongNames
pub mod NestingLaws
pub mod PutLaws
pub mod SearchLaws
