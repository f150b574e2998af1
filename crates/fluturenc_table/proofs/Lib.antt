pub mod Granted
pub mod LowestFrom
