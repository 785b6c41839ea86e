pub mod Finding
pub mod Writing
pub mod ReadOn
pub mod Clean
pub mod Resync
pub mod Blocks
