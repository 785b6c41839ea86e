pub mod Fields
pub mod Highs
