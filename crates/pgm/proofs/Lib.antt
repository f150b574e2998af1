pub mod Scanning
pub mod Copying
