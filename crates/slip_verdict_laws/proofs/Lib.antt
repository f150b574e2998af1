pub mod Examples
pub mod SlipVerdictLaws
