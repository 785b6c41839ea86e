pub mod Overlay
pub mod Front
pub mod Stored
pub mod Compared
pub mod Parts
pub mod Putting
