-- What the calls on a kept run answer, with their refusals (01, "The kept run"; "Refusal numbers").
use Rattle.std.specs.Prelude.{Bool, List, [], ◌∷◌, ℕ, ◌+◌, ◌-◌, ◌≡◌, ltb, Result}
use Rattle.std.specs.Result.{ResultUnwrapsOrElse}
use Rattle.answers.specs.Answer.{Answer}
use Rattle.answers.specs.declared.Refusal.{Refusal}
use Rattle.answers.specs.Conditions.{asking}
use Rattle.calendar_range.specs.Range.{rules_for, is_covered, year_conditions}
use Rattle.calendar_month.specs.Asked.{month_named}
use Rattle.calendar_date.specs.declared.Date.{Date}
use Rattle.calendar_date.specs.Dates.{day_in, date_in}
use Rattle.run_content.specs.declared.Run.{Run}
use Rattle.run_content.specs.Runs.{run_of, no_run}
use Rattle.run_examination.specs.Examined.{is_run}
use Rattle.run_lookup.specs.Held.{day_in_run_conditions, date_in_run_conditions}

-- what is given for a run, if it is one
unfoldable pub examined_of : Run → Answer Run
examined_of run = asking ((is_run run, 11) ∷ []) run

-- ---- open at a year; extend by the next; drop the oldest

-- the run of one year
unfoldable pub open_of : ℕ → ℕ → Answer Run
open_of c y = asking (year_conditions c y) (run_of c y 1)

-- the run that opening returns, where a refused one returns one of zeros: it is what `unwrap_or_default` gives of the answer, for that is a run's default
abbrev pub Unwrapped : Result Run Refusal → Run → Type 0
Unwrapped opened run = (x : Run) → ResultUnwrapsOrElse opened (λ zeros. zeros ≡ no_run) x → x ≡ run

-- past the last covered year it is 2, even at 14 years
abbrev pub extend_conditions : Run → List (Bool × ℕ)
extend_conditions run =
    (is_run run, 11) ∷
    (is_covered (rules_for run.calendar) (run.first_year + run.years), 2) ∷
    (ltb run.years 14, 9) ∷ []

unfoldable pub extend_of : Run → Answer Run
extend_of run = asking (extend_conditions run) (run_of run.calendar run.first_year (run.years + 1))

-- a run of one year has none to drop
abbrev pub drop_conditions : Run → List (Bool × ℕ)
drop_conditions run =
    (is_run run, 11) ∷
    (ltb 1 run.years, 10) ∷ []

unfoldable pub drop_of : Run → Answer Run
drop_of run = asking (drop_conditions run) (run_of run.calendar (run.first_year + 1) (run.years - 1))

-- ---- look up a day or date

-- the day of a date of the run's years, if what is given is a run
abbrev pub run_day_conditions : Run → ℕ → ℕ → Bool → ℕ → List (Bool × ℕ)
run_day_conditions run y m leap d =
    (is_run run, 11) ∷
    day_in_run_conditions run y m leap d

unfoldable pub run_day_of : Run → ℕ → ℕ → Bool → ℕ → Answer ℕ
run_day_of run y m leap d = asking (run_day_conditions run y m leap d) (day_in (rules_for run.calendar) (month_named (rules_for run.calendar) y m leap) d)

-- the date of one of the run's days, if what is given is a run
abbrev pub run_date_conditions : Run → ℕ → List (Bool × ℕ)
run_date_conditions run n =
    (is_run run, 11) ∷
    date_in_run_conditions run n

unfoldable pub run_date_of : Run → ℕ → Answer Date
run_date_of run n = asking (run_date_conditions run n) (date_in (rules_for run.calendar) (n + (rules_for run.calendar).day_zero))
