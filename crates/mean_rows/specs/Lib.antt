pub mod MeanRows
pub mod MeanRowsLaws
