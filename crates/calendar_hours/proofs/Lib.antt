pub mod Steps
pub mod Refusals
pub mod HoursLaws
pub mod OneAnswer
pub mod Figures
