pub mod Bare
pub mod BareLaws
pub mod Line
pub mod LineLaws
