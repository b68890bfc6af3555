pub mod Steps
pub mod Refusals
pub mod History
pub mod OneAnswer
pub mod Limits
pub mod LookedUp
