pub mod Filled
pub mod FilledLaws
pub mod StoringLaws
