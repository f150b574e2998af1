pub mod FrameRow
