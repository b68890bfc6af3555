-- What is asked of callers, so that a Julian date is near its fraction. No rule of the calendar.
use Rattle.std.specs.Prelude.{◌≡◌, ℕ, ◌%◌, ◌<◌, ◌≤◌, ◌^◌}

-- a date of 1 or more and below 2^22, in parts of which a day has an even number, and so few that the numerator is a floating number as it stands
pub record Datable (day part of_day : ℕ) : Type 0 where
  pub from : 2 ≤ day
  pub to : day < 2 ^ 22
  pub in_day : part < of_day
  pub few_parts : of_day ≤ 2 ^ 20
  pub even : of_day % 2 ≡ 0
