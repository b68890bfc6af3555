pub mod Record
pub mod Room
