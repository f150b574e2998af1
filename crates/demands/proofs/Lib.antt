pub mod DemandTwoLaws
pub mod FlipExamples
pub mod WrongProgramsLaws
