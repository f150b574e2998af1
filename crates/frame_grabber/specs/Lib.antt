pub mod FrameGrabber
pub mod Pieces
pub mod SeekLaws
pub mod PieceLaws
pub mod FrameGrabberLaws
