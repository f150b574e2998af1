pub mod KeptAnswer
pub mod KeptAnswerLaws
pub mod Gives
pub mod Sound
pub mod SoundLaws
