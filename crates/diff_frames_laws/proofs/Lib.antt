pub mod FrameListLaws
