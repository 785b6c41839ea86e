pub mod Lawful
pub mod Asked
