pub mod Making
pub mod Filed
pub mod Finished
pub mod Calls
pub mod Readout
pub mod Claims
