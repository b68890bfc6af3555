-- What is asked for, step by step as the code finds it: each step asks more of what the one before it found.
use mathlib.Core.Path.{◌≡◌, ap, ◌∙◌}
use mathlib.Core.Bool.{Bool, true, false}
use mathlib.Core.List.{[], ◌∷◌}
use Prim.Native.Nat.{ℕ, ◌+◌, ◌≤◌}
use borrow.Author.Tests.{le-leb}
use Rattle.answers.specs.Answer.{given, refused, then}
use Rattle.answers.specs.Conditions.{asking}
use Rattle.answers.proofs.Conditions.{then_asking}
use Rattle.months_rules.specs.declared.Calendar.{Calendar}
use Rattle.months_rules.specs.Rules.{Rules, rules_of}
use Rattle.months_rules.specs.FirstMonths.{begun}
use Rattle.months.specs.Months.{is_leap}
use Rattle.calendar_range.specs.Range.{year_asked}
use Rattle.calendar_month.specs.Asked.{regular_month, has_day, moon_asked, month_asked}
use Rattle.calendar_month.specs.Room.{moon_number, in_year}

module _ (c y m : ℕ) (leap : Bool) where
  -- the month whose moons are asked for, in the year that was found
  pub moon_asked_lem : moon_asked c y m leap ≡ then (year_asked c y) (λ a. in_year moon_number a.0 a.1 m leap)
  unfolding year_asked moon_asked
  moon_asked_lem = then_asking _ _ _ _

  -- the month of a date, in the year that was found, and then its day
  pub month_asked_lem : (d : ℕ) → month_asked c y m leap d ≡ then (then (year_asked c y) (λ a. in_year begun a.0 a.1 m leap)) (λ b. asking ((has_day (rules_of b.0) b.1.month d, 4) ∷ []) b)
  unfolding year_asked month_asked
  month_asked_lem d = then_asking _ _ _ _ ∙ ap (λ a. then a (λ b. asking ((has_day (rules_of b.0) b.1.month d, 4) ∷ []) b)) (then_asking _ _ _ _)

-- ---- what is told of the month of a number that is not leap, and of the one that is, if the year has it

module _ {A : Type 0} (what : Rules → ℕ → A) (k : Calendar) (y m : ℕ) (low : 1 ≤ m) (high : m ≤ 12) where
  pub regular_found : given (k, what (rules_of k) (regular_month (rules_of k) y m)) ≡ in_year what k y m false
  unfolding asking
  regular_found = rw (le-leb 1 m low, le-leb m 12 high)

  pub leap_found : is_leap (rules_of k) (regular_month (rules_of k) y m + 1) ≡ true → given (k, what (rules_of k) (regular_month (rules_of k) y m + 1)) ≡ in_year what k y m true
  unfolding asking
  leap_found is = rw (le-leb 1 m low, le-leb m 12 high, is)

  pub leap_lacking : is_leap (rules_of k) (regular_month (rules_of k) y m + 1) ≡ false → refused 3 ≡ in_year what k y m true
  unfolding asking
  leap_lacking is = rw (le-leb 1 m low, le-leb m 12 high, is)
