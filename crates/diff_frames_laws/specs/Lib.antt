pub mod FrameList
