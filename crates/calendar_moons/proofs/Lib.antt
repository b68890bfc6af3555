pub mod Steps
pub mod Moments
pub mod Refusals
pub mod InstantLaws
pub mod OneAnswer
pub mod Figures
