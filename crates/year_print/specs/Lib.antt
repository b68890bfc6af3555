pub mod Paper
pub mod OneOk
