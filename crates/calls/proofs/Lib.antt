pub mod Joined
pub mod Zero
