pub mod Steps
pub mod Given
pub mod Names
pub mod HasMonth
pub mod Covered
pub mod LeapMonths
pub mod OneAnswer
