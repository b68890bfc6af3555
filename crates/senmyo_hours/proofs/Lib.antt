pub mod HourLaws
pub mod OneAnswer
pub mod Figures
