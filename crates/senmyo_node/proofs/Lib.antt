pub mod NodeLaws
pub mod OneAnswer
pub mod Figures
