pub mod MarkFinder
pub mod MarkFinderLaws
