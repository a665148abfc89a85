pub mod NumberLaws
pub mod OptionLaws
pub mod OptionOrders
pub mod OptionParts
pub mod RangeLaws
