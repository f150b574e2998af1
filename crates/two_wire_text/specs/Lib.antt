pub mod Hex
pub mod HexLaws
pub mod Explained
pub mod ExplainedLaws
