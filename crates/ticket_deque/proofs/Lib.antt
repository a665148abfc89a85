pub mod Rules
pub mod OnceLaws
