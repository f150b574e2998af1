pub mod Examples
pub mod ExplainedLaws
pub mod Interchangeable
pub mod RunsExplainedLaws
pub mod StandsFor
pub mod Used
pub mod ReachableLaws
