pub mod FieldRanges
pub mod NumberRead
pub mod SettingsReadLaws
