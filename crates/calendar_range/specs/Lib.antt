pub mod Range
pub mod Answers
pub mod Room
