pub mod Sums
pub mod Explanation
pub mod ExplanationLaws
pub mod Valued
pub mod ValuedLaws
