pub mod Moon
pub mod Daily
pub mod Room
