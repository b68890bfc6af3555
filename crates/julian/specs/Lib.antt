pub mod Julian
pub mod Room
