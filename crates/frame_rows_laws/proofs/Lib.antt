pub mod FrameRowsLaws
pub mod PictureLaws
pub mod WholeFrameLaws
