pub mod ApplyLaws
pub mod CompareLaws
pub mod MeaningLaws
pub mod OrderLaws
pub mod UniqueLaws
