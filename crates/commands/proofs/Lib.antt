pub mod Tests
pub mod Entries
pub mod Fits
pub mod Order
pub mod Numbers
