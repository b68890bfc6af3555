pub mod Same
pub mod Examined
pub mod OneAnswer
