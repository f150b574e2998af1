pub mod LegibleRuns
pub mod Running
pub mod NothingTaken
