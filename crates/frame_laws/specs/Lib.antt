pub mod CompleteFrames
pub mod FrameLaws
pub mod Drawn
pub mod SentFrames
