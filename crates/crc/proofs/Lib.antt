pub mod Xor
pub mod Table
pub mod Laws
pub mod Examples
