pub mod Run
pub mod Stopping
pub mod RunLaws
pub mod Gives
pub mod Parts
pub mod AheadLaws
