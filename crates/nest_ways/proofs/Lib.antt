pub mod AlikeLaws
pub mod KeptLaws
pub mod SetLaws
pub mod WalkLaws
pub mod WayLaws
