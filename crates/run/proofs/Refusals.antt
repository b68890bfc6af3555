-- When each call on a run gives its answer and when it refuses, exactly (01, "Refusal numbers"): the first condition that fails names the refusal.
use mathlib.Core.Path.{◌≡◌, refl}
use mathlib.Core.Bool.{Bool, true, false}
use Prim.Native.Nat.{ℕ, ◌+◌, ◌-◌}
use lib.Dec.{ltb}
use Rattle.std.specs.Prelude.{Result}
use Rattle.answers.specs.Answer.{given, refused, left_in}
use Rattle.answers.specs.declared.Refusal.{Refusal}
use Rattle.answers.specs.Conditions.{AllHold, FirstFails, Exactly}
use Rattle.answers.proofs.Conditions.{given_exactly, refused_exactly}
use Rattle.months_rules.specs.Rules.{Rules}
use Rattle.calendar_range.specs.Range.{is_calendar, rules_for, is_covered, year_conditions}
use Rattle.calendar_month.specs.Asked.{has_month, month_named, has_day}
use Rattle.calendar_date.specs.declared.Date.{Date}
use Rattle.calendar_date.specs.Dates.{day_in, date_in}
use Rattle.run_content.specs.declared.Run.{Run}
use Rattle.run_content.specs.Runs.{run_of, no_run}
use Rattle.run_examination.specs.Examined.{can_be_kept, is_run}
use Rattle.run_lookup.specs.Held.{holds_year, holds_day}
use Rattle.run.specs.Calls.{Unwrapped, open_of, extend_conditions, extend_of, drop_conditions, drop_of, run_day_conditions, run_day_of, run_date_conditions, run_date_of}

-- ---- opening

module _ (c y : ℕ) where
  pub open_given : (run : Run) → Exactly (open_of c y ≡ given run) (AllHold (year_conditions c y) × (run_of c y 1 ≡ run))
  unfolding open_of
  open_given run = given_exactly _ _ run

  open_refused : (n : ℕ) → Exactly (open_of c y ≡ refused n) (FirstFails (year_conditions c y) n)
  unfolding open_of
  open_refused n = refused_exactly _ _ n

  pub open_refused_1 : Exactly (open_of c y ≡ refused 1) (is_calendar c ≡ false)
  open_refused_1 = open_refused 1

  pub open_refused_2 : Exactly (open_of c y ≡ refused 2) ((is_calendar c ≡ true) × (is_covered (rules_for c) y ≡ false))
  open_refused_2 = open_refused 2

-- ---- extending and dropping

module _ (run : Run) where
  abbrev next_covered : Bool
  next_covered = is_covered (rules_for run.calendar) (run.first_year + run.years)

  pub extend_given : (x : Run) → Exactly (extend_of run ≡ given x) (AllHold (extend_conditions run) × (run_of run.calendar run.first_year (run.years + 1) ≡ x))
  unfolding extend_of
  extend_given x = given_exactly _ _ x

  extend_refused : (n : ℕ) → Exactly (extend_of run ≡ refused n) (FirstFails (extend_conditions run) n)
  unfolding extend_of
  extend_refused n = refused_exactly _ _ n

  pub extend_refused_11 : Exactly (extend_of run ≡ refused 11) (is_run run ≡ false)
  extend_refused_11 = extend_refused 11

  -- past the last covered year, even at 14 years
  pub extend_refused_2 : Exactly (extend_of run ≡ refused 2) ((is_run run ≡ true) × (next_covered ≡ false))
  extend_refused_2 = extend_refused 2

  pub extend_refused_9 : Exactly (extend_of run ≡ refused 9) ((is_run run ≡ true) × ((next_covered ≡ true) × (ltb run.years 14 ≡ false)))
  extend_refused_9 = extend_refused 9

  pub drop_given : (x : Run) → Exactly (drop_of run ≡ given x) (AllHold (drop_conditions run) × (run_of run.calendar (run.first_year + 1) (run.years - 1) ≡ x))
  unfolding drop_of
  drop_given x = given_exactly _ _ x

  drop_refused : (n : ℕ) → Exactly (drop_of run ≡ refused n) (FirstFails (drop_conditions run) n)
  unfolding drop_of
  drop_refused n = refused_exactly _ _ n

  pub drop_refused_11 : Exactly (drop_of run ≡ refused 11) (is_run run ≡ false)
  drop_refused_11 = drop_refused 11

  pub drop_refused_10 : Exactly (drop_of run ≡ refused 10) ((is_run run ≡ true) × (ltb 1 run.years ≡ false))
  drop_refused_10 = drop_refused 10

-- ---- looking a date up

module _ (run : Run) (y m : ℕ) (leap : Bool) (d : ℕ) where
  abbrev rules : Rules
  rules = rules_for run.calendar

  pub run_day_given : (n : ℕ) → Exactly (run_day_of run y m leap d ≡ given n) (AllHold (run_day_conditions run y m leap d) × (day_in rules (month_named rules y m leap) d ≡ n))
  unfolding run_day_of
  run_day_given n = given_exactly _ _ n

  run_day_refused : (n : ℕ) → Exactly (run_day_of run y m leap d ≡ refused n) (FirstFails (run_day_conditions run y m leap d) n)
  unfolding run_day_of
  run_day_refused n = refused_exactly _ _ n

  pub run_day_refused_11 : Exactly (run_day_of run y m leap d ≡ refused 11) (is_run run ≡ false)
  run_day_refused_11 = run_day_refused 11

  pub run_day_refused_2 : Exactly (run_day_of run y m leap d ≡ refused 2) ((is_run run ≡ true) × (holds_year run y ≡ false))
  run_day_refused_2 = run_day_refused 2

  pub run_day_refused_3 : Exactly (run_day_of run y m leap d ≡ refused 3) ((is_run run ≡ true) × ((holds_year run y ≡ true) × (has_month rules y m leap ≡ false)))
  run_day_refused_3 = run_day_refused 3

  pub run_day_refused_4 : Exactly (run_day_of run y m leap d ≡ refused 4) ((is_run run ≡ true) × ((holds_year run y ≡ true) × ((has_month rules y m leap ≡ true) × (has_day rules (month_named rules y m leap) d ≡ false))))
  run_day_refused_4 = run_day_refused 4

-- ---- looking a day up

module _ (run : Run) (n : ℕ) where
  pub run_date_given : (t : Date) → Exactly (run_date_of run n ≡ given t) (AllHold (run_date_conditions run n) × (date_in (rules_for run.calendar) (n + (rules_for run.calendar).day_zero) ≡ t))
  unfolding run_date_of
  run_date_given t = given_exactly _ _ t

  run_date_refused : (m : ℕ) → Exactly (run_date_of run n ≡ refused m) (FirstFails (run_date_conditions run n) m)
  unfolding run_date_of
  run_date_refused m = refused_exactly _ _ m

  pub run_date_refused_11 : Exactly (run_date_of run n ≡ refused 11) (is_run run ≡ false)
  run_date_refused_11 = run_date_refused 11

  pub run_date_refused_5 : Exactly (run_date_of run n ≡ refused 5) ((is_run run ≡ true) × (holds_day run n ≡ false))
  run_date_refused_5 = run_date_refused 5

-- ---- the run of zeros, which stands for a run that was refused, is none

-- a refused opening leaves it, where nothing else was held
pub zeros_opened : (c y n : ℕ) → open_of c y ≡ refused n → left_in no_run (open_of c y) ≡ no_run
zeros_opened c y n e = rw e

-- .. and that is what `unwrap_or_default` gives of it
pub zeros_unwrapped : (c y n : ℕ) (opened : Result Run Refusal) → Unwrapped opened (left_in no_run (open_of c y)) → open_of c y ≡ refused n → Unwrapped opened no_run
zeros_unwrapped c y n opened unwrapped e = rw (zeros_opened c y n e) at unwrapped

zeros_no_run : is_run no_run ≡ false
unfolding is_run can_be_kept
zeros_no_run = refl

pub zeros_extend : extend_of no_run ≡ refused 11
zeros_extend = (extend_refused_11 no_run).if zeros_no_run

pub zeros_drop : drop_of no_run ≡ refused 11
zeros_drop = (drop_refused_11 no_run).if zeros_no_run

pub zeros_day : (y m : ℕ) (leap : Bool) (d : ℕ) → run_day_of no_run y m leap d ≡ refused 11
zeros_day y m leap d = (run_day_refused_11 no_run y m leap d).if zeros_no_run

pub zeros_date : (n : ℕ) → run_date_of no_run n ≡ refused 11
zeros_date n = (run_date_refused_11 no_run n).if zeros_no_run
