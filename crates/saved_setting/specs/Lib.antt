pub mod SavedSettings
pub mod SavedSettingsLaws
