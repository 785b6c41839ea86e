pub mod Results
pub mod Commands
pub mod ByValue
