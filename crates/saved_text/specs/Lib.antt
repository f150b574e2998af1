pub mod SettingsText
pub mod SettingsTextLaws
