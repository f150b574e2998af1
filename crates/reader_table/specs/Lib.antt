pub mod Table
pub mod Gives
