pub mod SettingsRequest
