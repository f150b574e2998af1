pub mod Tally
pub mod Answered
pub mod TallyLaws
