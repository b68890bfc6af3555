pub mod Words
pub mod CycleLaws
pub mod OneAnswer
