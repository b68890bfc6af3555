pub mod Dates
pub mod Room
