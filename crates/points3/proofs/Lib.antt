pub mod OneMore
pub mod GoodPulse
