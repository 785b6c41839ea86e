pub mod Fronts
pub mod Points
pub mod Configs
pub mod EachCommand
pub mod Heads
pub mod DataBytes
pub mod RoundTrip
pub mod Examples
