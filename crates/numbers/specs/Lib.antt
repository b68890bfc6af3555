pub mod Sign
pub mod Rounding
pub mod Between
pub mod Spans
pub mod Places
pub mod Same
pub mod OneResult
pub mod Room
