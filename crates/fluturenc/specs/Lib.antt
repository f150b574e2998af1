pub mod Calls
pub mod Gives
pub mod CallLaws
pub mod FeedingLaws
