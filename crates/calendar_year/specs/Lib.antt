pub mod Years
pub mod Demand
pub mod Room
