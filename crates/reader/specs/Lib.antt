pub mod Reader
pub mod ReaderLaws
pub mod Gives
pub mod Parts
