pub mod BytesHistoryLaws
pub mod BytesOpeningLaws
pub mod TableBytesLaws
