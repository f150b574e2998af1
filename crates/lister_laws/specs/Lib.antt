pub mod Lists
pub mod PartLaws
