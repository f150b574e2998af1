pub mod Signal
pub mod Seen
