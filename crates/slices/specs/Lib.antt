pub mod Overlay
pub mod Stored
pub mod Starts
pub mod Put
