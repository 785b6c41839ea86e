pub mod Ranges
pub mod Values
pub mod Released
pub mod Tails
pub mod Written
pub mod Theorems
