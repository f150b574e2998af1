pub mod ListsLaws
pub mod RunLaws
