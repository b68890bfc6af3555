-- What inner functions find, and what is asked of their callers, which have made sure of it. No rule of the calendar.
use Rattle.std.specs.Prelude.{ℕ, ◌-◌, ◌/◌, ◌<◌, ◌≤◌, ◌^◌}
use Rattle.months_rules.specs.declared.CalendarNumbers.{CalendarNumbers}
use Rattle.months_rules.specs.Rules.{Rules, day_number}
use Rattle.months_rules.specs.FirstMonths.{first_day_of, next_first_day}

-- what is told of a calendar by a number
abbrev pub numbers_of : Rules → CalendarNumbers
numbers_of r =
    record {
      first_year = r.first_year;
      last_year = r.last_year;
      first_day = day_number r (first_day_of r r.first_year);
      after_last = day_number r (next_first_day r r.last_year);
      day_zero = r.day_zero;
      terms = r.terms;
      zeroth_number = r.zeroth_number;
      rain_water = r.rain_water 0;
    }

-- the year of a mid-term: twelve to a year, from the Rain Water of year 0 on
abbrev pub term_year : Rules → ℕ → ℕ
term_year r j = (j - r.rain_water 0) / 12

-- mid-term j is not before year 0, and its year fits its word
pub record CoveredTerm (r : Rules) (j : ℕ) : Type 0 where
  pub from : r.rain_water 0 ≤ j
  pub year_small : term_year r j < 2 ^ 16
