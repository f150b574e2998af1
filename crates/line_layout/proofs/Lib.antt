pub mod PlaceLaws
pub mod Fits
