pub mod Hours
pub mod Room
