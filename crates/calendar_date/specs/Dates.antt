-- Dates and days, with their refusals (01, "Refusal numbers"; the second demand).
use Rattle.std.specs.Prelude.{Bool, true, false, ◌&&◌, List, [], ◌∷◌, ◌++◌, ℕ, ◌+◌, ◌-◌, ◌*◌, ◌%◌, leb, ltb}
use Rattle.answers.specs.Answer.{Answer}
use Rattle.answers.specs.Conditions.{asking}
use Rattle.months_rules.specs.Rules.{Rules, day_number}
use Rattle.months_rules.specs.FirstMonths.{month_of, first_day_of, next_first_day}
use Rattle.months.specs.Months.{year_with, is_leap, number_of}
use Rattle.calendar_range.specs.Range.{rules_for, calendar_conditions}
use Rattle.calendar_month.specs.Asked.{month_named, day_conditions}
use Rattle.calendar_date.specs.declared.Date.{Date}

-- day d of month k, by its day number
abbrev pub day_in : Rules → ℕ → ℕ → ℕ
day_in r k d = day_number r (r.start k + d - 1)

-- the day of a date
unfoldable pub day_of : ℕ → ℕ → ℕ → Bool → ℕ → Answer ℕ
day_of c y m leap d = asking (day_conditions c y m leap d) (day_in (rules_for c) (month_named (rules_for c) y m leap) d)

-- the covered days: from the first covered year's first day to the eve of the year after the last
abbrev pub is_covered_day : Rules → ℕ → Bool
is_covered_day r n = leb (day_number r (first_day_of r r.first_year)) n && ltb n (day_number r (next_first_day r r.last_year))

-- the date on a day, by the month that has it
abbrev pub date_in : Rules → ℕ → Date
date_in r d =
    let k : ℕ = month_of r d in
    record { year = year_with r k; month = number_of r k; leap = is_leap r k; day = d - r.start k + 1 }

-- the date of a day number
abbrev pub date_conditions : ℕ → ℕ → List (Bool × ℕ)
date_conditions c n =
    calendar_conditions c ++
    (is_covered_day (rules_for c) n, 5) ∷ []

unfoldable pub date_of : ℕ → ℕ → Answer Date
date_of c n = asking (date_conditions c n) (date_in (rules_for c) (n + (rules_for c).day_zero))

-- the cycle number of a day number, from 0, jiazi, to 59
abbrev pub cycle : ℕ → ℕ
cycle n = (n + 49) % 60

-- a date as one number: year, month and day side by side, and 100,000,000 more in a leap month
abbrev pub date_number : Date → ℕ
date_number t = elim t.leap [ true ↦ 100000000 | false ↦ 0 ] + (t.year * 10000 + t.month * 100 + t.day)
