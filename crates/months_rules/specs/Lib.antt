pub mod Rules
pub mod Numbered
pub mod FirstMonths
pub mod Room
