pub mod Layout
pub mod Bytes
pub mod Reader
