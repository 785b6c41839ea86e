pub mod Zeros
pub mod Lows
pub mod Partials
pub mod Facts
pub mod Carries
