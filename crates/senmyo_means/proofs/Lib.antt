pub mod MeanLaws
pub mod Figures
pub mod OneAnswer
