-- When a month that is asked for is given, exactly.
use mathlib.Core.Path.{◌≡◌}
use mathlib.Core.Bool.{Bool}
use Prim.Native.Nat.{ℕ}
use Rattle.answers.specs.Answer.{given}
use Rattle.answers.specs.Conditions.{AllHold, Exactly}
use Rattle.answers.proofs.Conditions.{given_exactly}
use Rattle.months_rules.specs.declared.Calendar.{Calendar}
use Rattle.months_rules.specs.declared.Begun.{Begun}
use Rattle.months_rules.specs.FirstMonths.{begun}
use Rattle.calendar_range.specs.Range.{numbered, rules_for}
use Rattle.calendar_month.specs.Asked.{month_named, month_conditions, day_conditions, moon_asked, month_asked}

module _ (c y m : ℕ) (leap : Bool) where
  pub moon_given : (a : Calendar × ℕ) → Exactly (moon_asked c y m leap ≡ given a) (AllHold (month_conditions c y m leap) × ((numbered c, month_named (rules_for c) y m leap) ≡ a))
  unfolding moon_asked
  moon_given a = given_exactly _ _ a

  pub month_given : (d : ℕ) (a : Calendar × Begun) → Exactly (month_asked c y m leap d ≡ given a) (AllHold (day_conditions c y m leap d) × ((numbered c, begun (rules_for c) (month_named (rules_for c) y m leap)) ≡ a))
  unfolding month_asked
  month_given d a = given_exactly _ _ a
