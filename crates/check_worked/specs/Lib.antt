pub mod Worked
pub mod Terms
