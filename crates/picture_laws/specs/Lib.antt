pub mod FrameSent
pub mod UntilSaidLaws
