pub mod Exposure
pub mod ExposureLaws
