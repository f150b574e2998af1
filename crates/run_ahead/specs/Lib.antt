pub mod Ahead
pub mod Blocks
pub mod Parts
