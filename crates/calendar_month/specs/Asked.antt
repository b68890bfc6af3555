-- The month that a call asks for, and the month of a date, each with the refusals up to it (01, "Refusal numbers").
use Rattle.std.specs.Prelude.{Bool, true, false, ◌&&◌, List, [], ◌∷◌, ◌++◌, ℕ, ◌+◌, ◌-◌, leb}
use Rattle.answers.specs.Answer.{Answer}
use Rattle.answers.specs.Conditions.{asking}
use Rattle.months_rules.specs.declared.Calendar.{Calendar}
use Rattle.months_rules.specs.declared.Begun.{Begun}
use Rattle.months_rules.specs.Rules.{Rules}
use Rattle.months_rules.specs.FirstMonths.{month_with, begun}
use Rattle.months.specs.Months.{month_length, is_leap}
use Rattle.calendar_range.specs.Range.{numbered, rules_for, year_conditions}

-- month m of year y has the mid-term of its number ..
abbrev pub regular_month : Rules → ℕ → ℕ → ℕ
regular_month r y m = month_with r (r.rain_water y + (m - 1))

-- .. and the leap month of that number, if there is one, follows it
abbrev pub month_named : Rules → ℕ → ℕ → Bool → ℕ
month_named r y m leap = elim leap [ true ↦ regular_month r y m + 1 | false ↦ regular_month r y m ]

-- the year has that month; else refusal 3: "month not 1 to 12, or a leap month this year lacks"
abbrev pub has_month : Rules → ℕ → ℕ → Bool → Bool
has_month r y m leap = (leb 1 m && leb m 12) && elim leap [ true ↦ is_leap r (regular_month r y m + 1) | false ↦ true ]

-- the month has that day; else refusal 4: "day 0 or past the month"
abbrev pub has_day : Rules → ℕ → ℕ → Bool
has_day r k d = leb 1 d && leb d (month_length r k)

-- ---- the conditions, each with its refusal

abbrev pub month_conditions : ℕ → ℕ → ℕ → Bool → List (Bool × ℕ)
month_conditions c y m leap =
    year_conditions c y ++
    (has_month (rules_for c) y m leap, 3) ∷ []

abbrev pub day_conditions : ℕ → ℕ → ℕ → Bool → ℕ → List (Bool × ℕ)
day_conditions c y m leap d =
    month_conditions c y m leap ++
    (has_day (rules_for c) (month_named (rules_for c) y m leap) d, 4) ∷ []

-- ---- what is asked for, or the refusal

-- the month whose moons are asked for, by the number of its new moon
unfoldable pub moon_asked : ℕ → ℕ → ℕ → Bool → Answer (Calendar × ℕ)
moon_asked c y m leap = asking (month_conditions c y m leap) (numbered c, month_named (rules_for c) y m leap)

-- the month of a date, with its first day
unfoldable pub month_asked : ℕ → ℕ → ℕ → Bool → ℕ → Answer (Calendar × Begun)
month_asked c y m leap d = asking (day_conditions c y m leap d) (numbered c, begun (rules_for c) (month_named (rules_for c) y m leap))
