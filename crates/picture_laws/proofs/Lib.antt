pub mod Examples
pub mod FrameSentLaws
pub mod UnopenedLaws
