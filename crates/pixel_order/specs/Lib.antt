pub mod PixelOrder
