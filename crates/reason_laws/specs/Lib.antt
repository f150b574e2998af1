pub mod Short
pub mod True
pub mod AfterEnd
