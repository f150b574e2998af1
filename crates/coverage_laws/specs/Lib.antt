pub mod AmongAnswers
pub mod Covered
pub mod CoveredLaws
