pub mod WorkedForms
pub mod WorkedReads
pub mod WorkedRefusals
