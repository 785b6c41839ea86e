pub mod Shaped
pub mod Idents
pub mod Rows
pub mod Judging
