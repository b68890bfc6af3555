pub mod Steps
pub mod Refusals
pub mod Covered
pub mod OneDate
pub mod Apart
pub mod OneAnswer
pub mod Figures
pub mod DateNumbers
