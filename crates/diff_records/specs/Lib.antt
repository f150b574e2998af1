pub mod Difference
pub mod Next
pub mod ReadBack
pub mod RestLaws
