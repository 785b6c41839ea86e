pub mod WhichAnswers
pub mod FrameDropped
pub mod TripKeeps
pub mod LeftOpen
pub mod LfOutside
