pub mod LongMonths
pub mod YearFields
pub mod Steps
pub mod CoveredFields
pub mod Figures
pub mod OneAnswer
