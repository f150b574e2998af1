pub mod ByRunsLaws
pub mod Passes
