pub mod Steady
pub mod FirstMonths
pub mod Calendars
pub mod Figures
pub mod OneAnswer
