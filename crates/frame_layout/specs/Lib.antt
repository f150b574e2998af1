pub mod FrameLayout
pub mod FrameLength
pub mod Places
pub mod PlaceLaws
