pub mod FrameLister
pub mod FrameListerLaws
