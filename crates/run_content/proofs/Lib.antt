pub mod Content
pub mod LastDates
pub mod Extending
pub mod Moving
pub mod Dropping
pub mod Figures
pub mod OneAnswer
