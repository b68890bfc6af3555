-- What inner functions ask of their callers, which have made sure of it, and what they find. No rule of the run.
use Rattle.std.specs.Prelude.{◌≡◌, Bool, true, false, ◌&&◌, List, [], ◌∷◌, Option, Some, None, ℕ, ◌+◌, ◌-◌, ◌/◌, ◌%◌, ◌<◌, ◌≤◌, get_or, leb}
use Rattle.answers.specs.Answer.{Answer}
use Rattle.answers.specs.Conditions.{asking}
use Rattle.months_rules.specs.FirstMonths.{first_month}
use Rattle.calendar_range.specs.Range.{rules_for}
use Rattle.calendar_month.specs.Asked.{has_month, month_named}
use Rattle.calendar_date.specs.declared.Date.{Date}
use Rattle.run_content.specs.declared.Run.{Run}
use Rattle.run_content.specs.Room.{Kept}
use Rattle.run_lookup.specs.Held.{holds_year}

-- ---- what is asked

-- the run was examined, and holds the year
pub record HeldYear (run : Run) (y : ℕ) : Type 0 where
  pub kept : Kept run
  pub holds : holds_year run y ≡ true

-- ---- what is found

-- place i has begun by then, and the next has not, if there is one
pub record LastBegun (l : List ℕ) (count day i : ℕ) : Type 0 where
  pub inside : i < count
  pub begun : get_or l i 0 ≤ day
  pub last : i + 1 < count → day < get_or l (i + 1) 0

-- the day after the last, as the last place tells it
abbrev pub day_after : Run → ℕ
day_after run = get_or run.first_days (run.count - 1) 0 + get_or run.last_dates (run.count - 1) 0 % 100

-- the date of a day of a month that is told by its last date
abbrev pub date_in_month : ℕ → ℕ → Date
date_in_month last d = record { year = last % 100000000 / 10000; month = last / 100 % 100; leap = leb 100000000 last; day = d }

-- the month of that name stands at place i
pub record StandsAt (run : Run) (y m : ℕ) (leap : Bool) (i : ℕ) : Type 0 where
  pub has : has_month (rules_for run.calendar) y m leap ≡ true
  pub inside : i < run.count
  pub month : month_named (rules_for run.calendar) y m leap ≡ first_month (rules_for run.calendar) run.first_year + i

-- what `place_of_month` tells: where the month stands, or that the year lacks it
abbrev pub MonthPlace : Run → ℕ → ℕ → Bool → Option ℕ → Type 0
MonthPlace run y m leap (Some i) = StandsAt run y m leap i
MonthPlace run y m leap None = has_month (rules_for run.calendar) y m leap ≡ false

-- the day of a month that stands at place i, or the refusal
unfoldable pub day_at : Run → ℕ → ℕ → Answer ℕ
day_at run i d = asking ((leb 1 d && leb d (get_or run.last_dates i 0 % 100), 4) ∷ []) (get_or run.first_days i 0 + d - 1)
