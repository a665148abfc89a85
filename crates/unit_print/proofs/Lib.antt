pub mod GrowingTexts
pub mod Blocks
pub mod BlockDepths
pub mod FittingParts
pub mod LineTests
pub mod NestingLaws
pub mod NodeTexts
pub mod PrintableLaws
