pub mod Joins
pub mod Facts
pub mod Carries
