pub mod SavedBytes
pub mod SavedBytesLaws
