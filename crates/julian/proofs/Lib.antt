pub mod Division
pub mod Nearness
pub mod Moment
pub mod OneAnswer
