pub mod LineNumber
pub mod LineNumberLaws
