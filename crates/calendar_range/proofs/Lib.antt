pub mod Covered
pub mod Steps
pub mod Numbers
pub mod OneAnswer
