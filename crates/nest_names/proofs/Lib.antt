pub mod FlatLaws
pub mod NamedLists
pub mod SameSpots
pub mod TableLaws
