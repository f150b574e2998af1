pub mod Messages
pub mod MessageLaws
pub mod TwoWireLaws
pub mod RegisterNames
