pub mod Step
pub mod Claims
