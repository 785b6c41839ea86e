pub mod Decoded
pub mod Parts
