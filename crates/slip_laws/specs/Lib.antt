pub mod Slip
pub mod ShortTexts
pub mod SlipFrames
pub mod Handed
