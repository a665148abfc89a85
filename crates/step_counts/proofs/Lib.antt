pub mod CountLaws
mod SummaryText
