pub mod Joined
pub mod Rows
pub mod Outcomes
