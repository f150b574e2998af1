pub mod CaptureVerdictLaws
pub mod CleanCaptureLaws
pub mod Examples
pub mod GoodCaptureLaws
pub mod JudgedFrames
pub mod ListedVerdictLaws
pub mod LongEnough
pub mod TwoFrames
