pub mod Exact
pub mod OneAnswer
