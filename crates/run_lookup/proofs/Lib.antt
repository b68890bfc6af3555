pub mod Places
pub mod DateOfDay
pub mod DayOfDate
pub mod OneAnswer
