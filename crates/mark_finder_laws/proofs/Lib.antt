pub mod BeginLaws
pub mod RunMeans
pub mod StandingLaws
