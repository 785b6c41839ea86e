pub mod Decimal
pub mod Front
pub mod Claims
