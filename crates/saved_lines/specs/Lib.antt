pub mod SavedLines
pub mod SavedLinesLaws
