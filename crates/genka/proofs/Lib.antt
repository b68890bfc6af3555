pub mod GenkaLaws
pub mod Figures
pub mod OneAnswer
