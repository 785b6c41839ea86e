pub mod Answers
pub mod Ranges
pub mod Commands
pub mod Reply
pub mod Bytes
pub mod Refusals
pub mod Idents
