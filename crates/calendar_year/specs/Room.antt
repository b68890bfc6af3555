-- What inner functions find, and what they ask of their callers, which have made sure of it. No rule of the calendar.
use Rattle.std.specs.Prelude.{◌≡◌, true, false, ℕ, ◌+◌, ◌<◌, ◌≤◌, set}
use Rattle.numbers.specs.Places.{places}
use Rattle.months_rules.specs.declared.Begun.{Begun}
use Rattle.months_rules.specs.Rules.{Rules}
use Rattle.months_rules.specs.FirstMonths.{begun, first_month}
use Rattle.calendar_year.specs.declared.Month.{Month}
use Rattle.calendar_year.specs.declared.Year.{Year}
use Rattle.calendar_year.specs.Years.{listed, no_month, leap_number}

-- ---- what is asked

-- the months from one to the eve of another are covered, and at most thirteen
pub record CoveredMonths (r : Rules) (first end : Begun) : Type 0 where
  pub first_own : first ≡ begun r first.month
  pub end_own : end ≡ begun r end.month
  pub from : first_month r r.first_year ≤ first.month
  pub to : end.month ≤ first_month r (r.last_year + 1)
  pub some : first.month < end.month
  pub at_most_13 : end.month ≤ first.month + 13

-- ---- a year while its months are listed: one more, and so many from month k on

unfoldable pub listed_behind : Month → Year → Year
listed_behind m y =
    record { days = y.days; leap = elim m.leap [ true ↦ m.number | false ↦ y.leap ]; count = y.count + 1; months = set y.months y.count m }

abbrev pub listing : Rules → ℕ → ℕ → ℕ → Year
listing r days k count =
    record { days = days; leap = leap_number (listed r) k count; count = count; months = places no_month (listed r) k count 13 }
