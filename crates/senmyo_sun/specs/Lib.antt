pub mod Sun
pub mod Sums
pub mod Room
