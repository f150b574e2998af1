pub mod FlippedCodesLaws
pub mod FlipsLaws
