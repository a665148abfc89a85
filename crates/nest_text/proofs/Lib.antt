pub mod GroupWalks
pub mod KindLaws
pub mod LineWalks
pub mod NestAnswers
pub mod NestsOnce
pub mod NestsThere
pub mod RefusedLines
pub mod TextCuts
