pub mod Eclipse
pub mod Answers
pub mod Room
