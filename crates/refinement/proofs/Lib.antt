pub mod Brought
pub mod CallTableLaws
pub mod RunAnswersLaws
pub mod RunBySinglesLaws
pub mod RunsLaws
pub mod RunsReached
