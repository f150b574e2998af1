pub mod Answers
pub mod AnswersLaws
pub mod Stream
pub mod TextLaws
pub mod Written
pub mod Nibbles
pub mod NibblesLaws
pub mod Starred
