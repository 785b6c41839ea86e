pub mod Pulses
pub mod Verdicts
pub mod Bytes
pub mod Judged
pub mod Answered
