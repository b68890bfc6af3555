pub mod Tagged
pub mod Fields
pub mod Room
