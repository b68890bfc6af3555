pub mod Written
pub mod Sizes
pub mod Told
pub mod Refusals
pub mod OneAnswer
pub mod Figures
