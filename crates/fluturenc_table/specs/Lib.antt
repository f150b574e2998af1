pub mod TableBytes
pub mod TableCalls
