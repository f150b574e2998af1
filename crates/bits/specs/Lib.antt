pub mod Bits
pub mod Every
pub mod Tests
pub mod Agree
