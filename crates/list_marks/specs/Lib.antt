pub mod MarkLister
pub mod MarkListerLaws
