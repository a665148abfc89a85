pub mod BareTexts
pub mod HighTexts
pub mod LineLaws
