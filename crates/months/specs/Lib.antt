pub mod Months
pub mod Year
pub mod Room
