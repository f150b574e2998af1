pub mod Writer
pub mod Parts
pub mod WriterTable
pub mod WriterLaws
