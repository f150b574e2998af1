pub mod LineCode
pub mod LineCodeLaws
pub mod Parts
