pub mod Digits
pub mod Values
pub mod Theorems
pub mod Front
pub mod Reading
