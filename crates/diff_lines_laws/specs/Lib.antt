pub mod Applied
pub mod Meaning
pub mod EachLaws
pub mod MergeLaws
pub mod BytesLaws
