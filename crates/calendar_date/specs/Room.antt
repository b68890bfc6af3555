-- What an inner function asks of its caller, which has made sure of it. No rule of the calendar.
use Rattle.std.specs.Prelude.{ℕ, ◌<◌, ◌≤◌}
use Rattle.months_rules.specs.Rules.{Rules}
use Rattle.months_rules.specs.FirstMonths.{first_day_of, next_first_day}

-- whole day d is covered
pub record CoveredDay (r : Rules) (d : ℕ) : Type 0 where
  pub from : first_day_of r r.first_year ≤ d
  pub to : d < next_first_day r r.last_year
