-- What an examined run answers: among its years and days the calendar's own answer (01, "The kept run": "look up a day or date").
use Rattle.std.specs.Prelude.{◌≡◌, Bool, ◌&&◌, List, [], ◌∷◌, ℕ, ◌+◌, ◌%◌, ◌<◌, ◌≤◌, leb, ltb, get_or}
use Rattle.answers.specs.Answer.{Answer}
use Rattle.answers.specs.Conditions.{asking}
use Rattle.months_rules.specs.Rules.{Rules, day_number}
use Rattle.months_rules.specs.FirstMonths.{first_day_of}
use Rattle.calendar_range.specs.Range.{rules_for}
use Rattle.calendar_month.specs.Asked.{has_month, month_named, has_day}
use Rattle.calendar_date.specs.declared.Date.{Date}
use Rattle.calendar_date.specs.Dates.{day_in, date_in}
use Rattle.run_content.specs.declared.Run.{Run}

-- the year is one of the run's; else refusal 2, "in a run: not held"
abbrev pub holds_year : Run → ℕ → Bool
holds_year run y = leb run.first_year y && ltb y (run.first_year + run.years)

-- the day of a date of the run's years
abbrev pub day_in_run_conditions : Run → ℕ → ℕ → Bool → ℕ → List (Bool × ℕ)
day_in_run_conditions run y m leap d =
    let r : Rules = rules_for run.calendar in
    (holds_year run y, 2) ∷
    (has_month r y m leap, 3) ∷
    (has_day r (month_named r y m leap) d, 4) ∷ []

unfoldable pub day_in_run : Run → ℕ → ℕ → Bool → ℕ → Answer ℕ
day_in_run run y m leap d = asking (day_in_run_conditions run y m leap d) (day_in (rules_for run.calendar) (month_named (rules_for run.calendar) y m leap) d)

-- the day is one of the run's; else refusal 5: "day outside [..] the run's"
abbrev pub holds_day : Run → ℕ → Bool
holds_day run n =
    let r : Rules = rules_for run.calendar in
    leb (day_number r (first_day_of r run.first_year)) n && ltb n (day_number r (first_day_of r (run.first_year + run.years)))

-- the date of one of the run's days
abbrev pub date_in_run_conditions : Run → ℕ → List (Bool × ℕ)
date_in_run_conditions run n =
    (holds_day run n, 5) ∷ []

unfoldable pub date_in_run : Run → ℕ → Answer Date
date_in_run run n = asking (date_in_run_conditions run n) (date_in (rules_for run.calendar) (n + (rules_for run.calendar).day_zero))

-- place i has day n
pub record PlaceHas (run : Run) (i n : ℕ) : Type 0 where
  pub inside : i < run.count
  pub from : get_or run.first_days i 0 ≤ n
  pub to : n < get_or run.first_days i 0 + get_or run.last_dates i 0 % 100

-- exactly one place has day n
pub record OnePlace (run : Run) (n : ℕ) : Type 0 where
  pub place : ℕ
  pub has : PlaceHas run place n
  pub no_other : (i : ℕ) → PlaceHas run i n → i ≡ place
