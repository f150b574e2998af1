pub mod NewsLines
pub mod NewsLinesLaws
