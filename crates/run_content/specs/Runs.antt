-- What a kept run holds (01, "The kept run"): of each month two numbers, from which its year, number, leap or not, length and days can be told.
use Rattle.std.specs.Prelude.{ℕ, ◌+◌, ◌-◌, replicate}
use Rattle.numbers.specs.Places.{places}
use Rattle.months_rules.specs.Rules.{Rules, day_number}
use Rattle.months_rules.specs.FirstMonths.{first_month}
use Rattle.months.specs.Months.{month_length, year_with, is_leap, number_of}
use Rattle.calendar_range.specs.Range.{rules_for}
use Rattle.calendar_date.specs.Dates.{date_number}
use Rattle.run_content.specs.declared.Run.{Run}

-- the first day of month k, by day number
abbrev pub held_first : Rules → ℕ → ℕ
held_first r k = day_number r (r.start k)

-- its last date, as one number
abbrev pub held_last : Rules → ℕ → ℕ
held_last r k = date_number (record { year = year_with r k; month = number_of r k; leap = is_leap r k; day = month_length r k })

-- the run of so many years from a first one on: their months in order, in 174 places
unfoldable pub run_of : ℕ → ℕ → ℕ → Run
run_of c first years =
    let r : Rules = rules_for c in
    let k : ℕ = first_month r first in
    let count : ℕ = first_month r (first + years) - k in
    record {
      calendar = c;
      first_year = first;
      years = years;
      count = count;
      first_days = places 0 (held_first r) k count 174;
      last_dates = places 0 (held_last r) k count 174;
    }

-- no years, and every place zero
abbrev pub empty_run : ℕ → ℕ → Run
empty_run c first = record { calendar = c; first_year = first; years = 0; count = 0; first_days = replicate 174 0; last_dates = replicate 174 0 }

-- .. and every other number too
abbrev pub no_run : Run
no_run = empty_run 0 0
