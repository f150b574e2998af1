pub mod DifferenceLaws
pub mod NextLaws
pub mod PairLaws
