pub mod OutlookLaws
