pub mod PhaseLaws
pub mod Worked
pub mod NearMean
pub mod OneAnswer
