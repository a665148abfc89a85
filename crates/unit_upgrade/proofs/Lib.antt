pub mod AddedLengths
pub mod BudgetBounds
pub mod Parted
pub mod PrintedUpgrades
pub mod RulesKept
pub mod SameRuns
