pub mod CallNumbers
pub mod CallNumbersLaws
