pub mod Histories
pub mod HistoryLaws
pub mod OrderLaws
pub mod PutInLaws
