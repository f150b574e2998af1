pub mod SensorBytes
pub mod SensorBytesLaws
