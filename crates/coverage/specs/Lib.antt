pub mod Coverage
pub mod CoverageLaws
