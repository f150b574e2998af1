pub mod Places
pub mod Asked
