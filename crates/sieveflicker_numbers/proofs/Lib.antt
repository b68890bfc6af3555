pub mod Memory
pub mod OneAnswer
