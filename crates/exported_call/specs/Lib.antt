pub mod LentCall
pub mod LentCallLaws
