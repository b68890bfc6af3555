pub mod Terms
pub mod Sizes
pub mod Sums
pub mod Bounds
pub mod OneAnswer
