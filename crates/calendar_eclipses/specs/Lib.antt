pub mod Eclipses
pub mod Answers
