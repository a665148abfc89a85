pub mod MeaningLaws
