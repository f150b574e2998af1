pub mod Portions
pub mod Blocks
