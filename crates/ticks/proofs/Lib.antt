pub mod Places
pub mod Running
pub mod Ticks
