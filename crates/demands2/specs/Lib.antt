pub mod Demand1
pub mod WhichAnswers
pub mod RoundTrips
pub mod Examples
