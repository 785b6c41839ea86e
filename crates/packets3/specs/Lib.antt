pub mod Rehamove3
pub mod Writer
