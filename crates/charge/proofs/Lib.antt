pub mod Sizes
pub mod Points
pub mod Theorems
pub mod Examples
