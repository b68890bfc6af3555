pub mod Cuts
pub mod Digits
pub mod Laws
pub mod Figures
pub mod Passed
pub mod Missing
pub mod OneAnswer
