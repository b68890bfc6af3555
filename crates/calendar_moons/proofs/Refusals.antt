-- When each call gives its answer and when it refuses, exactly (01, "Refusal numbers"): the first condition that fails names the refusal.
use mathlib.Core.Path.{◌≡◌}
use mathlib.Core.Bool.{Bool, true, false}
use Prim.Native.Nat.{ℕ}
use Rattle.answers.specs.Answer.{given, refused}
use Rattle.answers.specs.Conditions.{AllHold, FirstFails, Exactly}
use Rattle.answers.proofs.Conditions.{given_exactly, refused_exactly}
use Rattle.months_rules.specs.Rules.{Rules}
use Rattle.calendar_range.specs.Range.{is_calendar, rules_for, is_covered}
use Rattle.calendar_month.specs.Asked.{month_named, has_month, month_conditions}
use Rattle.calendar_moons.specs.Instants.{of_month}

module _ (c y m : ℕ) (leap : Bool) where
  abbrev covered : Bool
  covered = is_covered (rules_for c) y

  abbrev has : Bool
  has = has_month (rules_for c) y m leap

  -- ---- instants, and whatever else is asked of a month of either calendar

  module _ {A : Type 0} (what : Rules → ℕ → A) where
    pub of_given : (a : A) → Exactly (of_month what c y m leap ≡ given a) (AllHold (month_conditions c y m leap) × (what (rules_for c) (month_named (rules_for c) y m leap) ≡ a))
    unfolding of_month
    of_given a = given_exactly _ _ a

    pub of_refused : (n : ℕ) → Exactly (of_month what c y m leap ≡ refused n) (FirstFails (month_conditions c y m leap) n)
    unfolding of_month
    of_refused n = refused_exactly _ _ n

    pub of_refused_1 : Exactly (of_month what c y m leap ≡ refused 1) (is_calendar c ≡ false)
    of_refused_1 = of_refused 1

    pub of_refused_2 : Exactly (of_month what c y m leap ≡ refused 2) ((is_calendar c ≡ true) × (covered ≡ false))
    of_refused_2 = of_refused 2

    pub of_refused_3 : Exactly (of_month what c y m leap ≡ refused 3) ((is_calendar c ≡ true) × ((covered ≡ true) × (has ≡ false)))
    of_refused_3 = of_refused 3
