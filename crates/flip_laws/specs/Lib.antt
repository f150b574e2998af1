pub mod Flips
pub mod FlippedCodes
pub mod Arrivals
