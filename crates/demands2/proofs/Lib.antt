pub mod Demand1
pub mod WhichAnswers
pub mod ReadsBack
pub mod WritesBack
pub mod RestUnused
pub mod Row
pub mod Examples
