pub mod Examples
pub mod Isolation
pub mod OpeningDemand
pub mod OpeningLaws
pub mod OwnPlacesLaws
pub mod Parts
