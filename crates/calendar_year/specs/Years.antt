-- A year and its months in order (01, "Months and leap"; what the program prints, at the end of "Worked figures").
use Rattle.std.specs.Prelude.{true, false, ℕ, zero, suc, ◌+◌, ◌-◌}
use Rattle.answers.specs.Answer.{Answer}
use Rattle.answers.specs.Conditions.{asking}
use Rattle.numbers.specs.Places.{places}
use Rattle.months_rules.specs.Rules.{Rules, day_number}
use Rattle.months_rules.specs.FirstMonths.{first_month, first_day_of, next_first_day}
use Rattle.months.specs.Months.{month_length, month_count, is_leap, number_of}
use Rattle.calendar_range.specs.Range.{rules_for, year_conditions}
use Rattle.calendar_year.specs.declared.Month.{Month}
use Rattle.calendar_year.specs.declared.Year.{Year}

-- month k as a year lists it
abbrev pub listed : Rules → ℕ → Month
listed r k = record { number = number_of r k; leap = is_leap r k; length = month_length r k; first_day = day_number r (r.start k) }

-- a place that is not used
abbrev pub no_month : Month
no_month = record { number = 0; leap = false; length = 0; first_day = 0 }

-- the number of the leap month among so many from month k on, or 0
unfoldable pub leap_number : (ℕ → Month) → ℕ → ℕ → ℕ
leap_number month k zero = 0
leap_number month k (suc count) = elim (month (k + count)).leap [ true ↦ (month (k + count)).number | false ↦ leap_number month k count ]

-- year y: its days, leap number or 0, count of months, and its months in order in 13 places
unfoldable pub year_in : Rules → ℕ → Year
year_in r y =
    let k : ℕ = first_month r y in
    let count : ℕ = month_count r y in
    record { days = next_first_day r y - first_day_of r y; leap = leap_number (listed r) k count; count = count; months = places no_month (listed r) k count 13 }

-- the year of a number
unfoldable pub year_of : ℕ → ℕ → Answer Year
year_of c y = asking (year_conditions c y) (year_in (rules_for c) y)
