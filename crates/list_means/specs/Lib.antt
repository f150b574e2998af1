pub mod MeanLister
pub mod MeanListerLaws
