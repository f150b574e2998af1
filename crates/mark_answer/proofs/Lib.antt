pub mod ByReading
