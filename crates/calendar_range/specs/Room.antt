-- What is known of a year that was asked for and found. No rule of the calendar.
use Rattle.std.specs.Prelude.{ℕ, ◌≤◌}
use Rattle.months_rules.specs.Rules.{Rules}

-- year y is covered
pub record CoveredYear (r : Rules) (y : ℕ) : Type 0 where
  pub from : r.first_year ≤ y
  pub to : y ≤ r.last_year
