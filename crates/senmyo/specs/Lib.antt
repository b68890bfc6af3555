pub mod Phases
pub mod FullMoons
pub mod Room
