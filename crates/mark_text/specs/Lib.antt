pub mod MarkText
pub mod MarkTextLaws
