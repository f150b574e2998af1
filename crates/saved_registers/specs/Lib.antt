pub mod SettingRegisters
pub mod SettingRegistersLaws
