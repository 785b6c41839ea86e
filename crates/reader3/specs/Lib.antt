pub mod Reader
pub mod Decoding
