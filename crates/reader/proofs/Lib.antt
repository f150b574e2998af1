pub mod Copy
pub mod Taking
