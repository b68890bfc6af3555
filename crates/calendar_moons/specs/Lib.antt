pub mod Instants
pub mod Room
