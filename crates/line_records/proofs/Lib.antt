pub mod LinesLaws
pub mod PartsLaws
