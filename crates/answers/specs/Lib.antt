pub mod Answer
pub mod Conditions
