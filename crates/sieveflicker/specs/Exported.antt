-- What each exported call answers: the answer of the call behind it, as numbers. Of a call that is lent memory, what the memory holds when it has been
-- written: the numbers in its first places, and in the spare ones what they held.
use Rattle.std.specs.Prelude.{Bool, List, ◌∷◌, ◌++◌, ℕ, leb, Float, length, drop}
use Rattle.answers.specs.Answer.{Answer, given, then}
use Rattle.answers.specs.Conditions.{asking}
use Rattle.calendar_range.specs.Range.{rules_for, year_conditions}
use Rattle.calendar_month.specs.Asked.{month_named, month_conditions}
use Rattle.calendar_eclipses.specs.Eclipses.{eclipse_in, eclipse_conditions}
use Rattle.calendar_moons.specs.Instants.{moons_in}
use Rattle.calendar_hours.specs.Hours.{hours_in, hours_conditions}
use Rattle.calendar_date.specs.Dates.{day_of, date_of, date_number}
use Rattle.calendar_year.specs.Years.{year_in}
use Rattle.record_fields.specs.Tagged.{numbers_of, numbers_at}
use Rattle.record_fields.specs.Fields.{layout}
use Rattle.record.specs.Record.{fields_for, read_conditions}
use Rattle.sieveflicker_numbers.specs.Numbers.{asks_leap, number_in, year_numbers, eclipse_numbers, hours_numbers, moons_numbers}

-- the day number
abbrev pub day_number_of : ℕ → ℕ → ℕ → ℕ → ℕ → ℕ
day_number_of c y m leap d = number_in (day_of c y m (asks_leap leap) d)

-- year × 10,000 + month × 100 + day, and 100,000,000 more in a leap month
abbrev pub date_number_of : ℕ → ℕ → ℕ
date_number_of c n = number_in (then (date_of c n) (λ t. given (date_number t)))

-- the lent memory has so many places; else refusal 6
abbrev pub has_room : {B : Type 0} → ℕ → List B → Bool
has_room size out = leb size (length out)

-- 55 numbers
abbrev pub year_written_conditions : ℕ → ℕ → List ℕ → List (Bool × ℕ)
year_written_conditions c y out =
    (has_room 55 out, 6) ∷
    year_conditions c y

abbrev pub year_written : ℕ → ℕ → List ℕ → Answer (List ℕ)
year_written c y out = asking (year_written_conditions c y out) (year_numbers (year_in (rules_for c) y) ++ drop 55 out)

-- 8 numbers
abbrev pub eclipse_written_conditions : ℕ → ℕ → ℕ → ℕ → List ℕ → List (Bool × ℕ)
eclipse_written_conditions c y m leap out =
    (has_room 8 out, 6) ∷
    eclipse_conditions c y m (asks_leap leap)

abbrev pub eclipse_written : ℕ → ℕ → ℕ → ℕ → List ℕ → Answer (List ℕ)
eclipse_written c y m leap out = asking (eclipse_written_conditions c y m leap out) (eclipse_numbers (eclipse_in (month_named (rules_for c) y m (asks_leap leap))) ++ drop 8 out)

-- 12 numbers
abbrev pub hours_written_conditions : ℕ → ℕ → ℕ → ℕ → List ℕ → List (Bool × ℕ)
hours_written_conditions c y m leap out =
    (has_room 12 out, 6) ∷
    hours_conditions c y m (asks_leap leap)

abbrev pub hours_written : ℕ → ℕ → ℕ → ℕ → List ℕ → Answer (List ℕ)
hours_written c y m leap out = asking (hours_written_conditions c y m leap out) (hours_numbers (hours_in (month_named (rules_for c) y m (asks_leap leap))) ++ drop 12 out)

-- two dates
abbrev pub moons_written_conditions : ℕ → ℕ → ℕ → ℕ → List Float → List (Bool × ℕ)
moons_written_conditions c y m leap out =
    (has_room 2 out, 6) ∷
    month_conditions c y m (asks_leap leap)

abbrev pub moons_written : ℕ → ℕ → ℕ → ℕ → List Float → Answer (List Float)
moons_written c y m leap out = asking (moons_written_conditions c y m leap out) (moons_numbers (moons_in (rules_for c) (month_named (rules_for c) y m (asks_leap leap))) ++ drop 2 out)

-- calendar, year, first day, leap number, long months
abbrev pub fields_written_conditions : List ℕ → List ℕ → List (Bool × ℕ)
fields_written_conditions bytes out =
    (has_room 5 out, 6) ∷
    read_conditions bytes

abbrev pub fields_written : List ℕ → List ℕ → Answer (List ℕ)
fields_written bytes out = asking (fields_written_conditions bytes out) (numbers_of layout (fields_for (numbers_at layout bytes 0)) ++ drop 5 out)
