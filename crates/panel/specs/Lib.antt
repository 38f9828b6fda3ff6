pub mod Bits
pub mod Panel
pub mod Parts
