pub mod ReasonWords
pub mod ReasonWordsLaws
