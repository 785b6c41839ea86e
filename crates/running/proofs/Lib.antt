pub mod Fits
pub mod Waits
pub mod Parts
