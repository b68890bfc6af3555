pub mod Steps
pub mod Numbered
pub mod Refusals
pub mod OneAnswer
pub mod Figures
