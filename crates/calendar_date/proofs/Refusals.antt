-- When each call gives its answer and when it refuses, exactly (01, "Refusal numbers"): the first condition that fails names the refusal.
use mathlib.Core.Path.{◌≡◌}
use mathlib.Core.Bool.{Bool, true, false}
use Prim.Native.Nat.{ℕ, ◌+◌}
use Rattle.answers.specs.Answer.{given, refused}
use Rattle.answers.specs.Conditions.{AllHold, FirstFails, Exactly}
use Rattle.answers.proofs.Conditions.{given_exactly, refused_exactly}
use Rattle.calendar_range.specs.Range.{is_calendar, rules_for, is_covered}
use Rattle.calendar_month.specs.Asked.{has_month, month_named, has_day, day_conditions}
use Rattle.calendar_date.specs.declared.Date.{Date}
use Rattle.calendar_date.specs.Dates.{day_in, day_of, is_covered_day, date_in, date_conditions, date_of}

-- ---- a date's day

module _ (c y m : ℕ) (leap : Bool) (d : ℕ) where
  abbrev month : ℕ
  month = month_named (rules_for c) y m leap

  pub day_given : (n : ℕ) → Exactly (day_of c y m leap d ≡ given n) (AllHold (day_conditions c y m leap d) × (day_in (rules_for c) month d ≡ n))
  unfolding day_of
  day_given n = given_exactly _ _ n

  pub day_refused : (n : ℕ) → Exactly (day_of c y m leap d ≡ refused n) (FirstFails (day_conditions c y m leap d) n)
  unfolding day_of
  day_refused n = refused_exactly _ _ n

  pub day_refused_1 : Exactly (day_of c y m leap d ≡ refused 1) (is_calendar c ≡ false)
  day_refused_1 = day_refused 1

  pub day_refused_2 : Exactly (day_of c y m leap d ≡ refused 2) ((is_calendar c ≡ true) × (is_covered (rules_for c) y ≡ false))
  day_refused_2 = day_refused 2

  pub day_refused_3 : Exactly (day_of c y m leap d ≡ refused 3) ((is_calendar c ≡ true) × ((is_covered (rules_for c) y ≡ true) × (has_month (rules_for c) y m leap ≡ false)))
  day_refused_3 = day_refused 3

  pub day_refused_4 : Exactly (day_of c y m leap d ≡ refused 4) ((is_calendar c ≡ true) × ((is_covered (rules_for c) y ≡ true) × ((has_month (rules_for c) y m leap ≡ true) × (has_day (rules_for c) month d ≡ false))))
  day_refused_4 = day_refused 4

-- ---- a day's date

module _ (c n : ℕ) where
  pub date_given : (t : Date) → Exactly (date_of c n ≡ given t) (AllHold (date_conditions c n) × (date_in (rules_for c) (n + (rules_for c).day_zero) ≡ t))
  unfolding date_of
  date_given t = given_exactly _ _ t

  pub date_refused : (m : ℕ) → Exactly (date_of c n ≡ refused m) (FirstFails (date_conditions c n) m)
  unfolding date_of
  date_refused m = refused_exactly _ _ m

  pub date_refused_1 : Exactly (date_of c n ≡ refused 1) (is_calendar c ≡ false)
  date_refused_1 = date_refused 1

  pub date_refused_5 : Exactly (date_of c n ≡ refused 5) ((is_calendar c ≡ true) × (is_covered_day (rules_for c) n ≡ false))
  date_refused_5 = date_refused 5
