pub mod Fields
pub mod High
