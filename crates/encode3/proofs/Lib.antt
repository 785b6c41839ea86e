pub mod Writable
pub mod Bytes
