pub mod Profile
pub mod Layout
pub mod LayoutLaws
