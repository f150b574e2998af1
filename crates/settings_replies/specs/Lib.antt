pub mod SettingsWords
