pub mod Unpacked
pub mod UnpackedLaws
pub mod EndToEnd
pub mod Packed
