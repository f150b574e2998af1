pub mod ReasonText
pub mod ReasonTextLaws
