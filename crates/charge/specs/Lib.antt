pub mod Charge
pub mod Sentences
