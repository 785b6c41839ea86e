pub mod Packet
pub mod Scan
pub mod Blocks
pub mod Walked
