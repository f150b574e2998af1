pub mod Examples
pub mod StretchCallsLaws
pub mod StretchesLaws
pub mod WholeLinesLaws
