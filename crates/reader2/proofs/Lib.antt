pub mod Header
pub mod FirstBytes
