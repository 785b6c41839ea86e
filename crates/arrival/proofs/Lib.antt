pub mod Growing
pub mod Wholes
pub mod Arrivals
