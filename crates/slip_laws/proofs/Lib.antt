pub mod Examples
pub mod LeftHanded
pub mod LostRulings
pub mod SlipFramesLaws
pub mod SlipLaws
pub mod SlipTally
