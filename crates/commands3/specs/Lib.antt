pub mod Points
pub mod Commands
pub mod Contents
