pub mod Examples
pub mod MarkLaws
pub mod NumberLaws
pub mod ReaderLaws
pub mod TrueLaws
