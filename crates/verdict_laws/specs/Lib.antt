pub mod CaptureVerdict
pub mod CleanCapture
pub mod ListedVerdict
pub mod GoodCapture
