-- The year that is asked for, step by step as the code finds it, and whether it is covered.
use mathlib.Core.Path.{◌≡◌, refl}
use mathlib.Core.Bool.{Bool, true, false, ◌&&◌}
use mathlib.Core.List.{[], ◌∷◌}
use Prim.Native.Nat.{ℕ}
use Rattle.answers.specs.Answer.{given, refused, then}
use Rattle.answers.specs.Conditions.{asking}
use Rattle.answers.proofs.Answers.{not_refused}
use Rattle.answers.proofs.Conditions.{then_asking}
use Rattle.months_rules.specs.declared.Calendar.{Calendar}
use Rattle.months_rules.specs.Rules.{rules_of}
use Rattle.calendar_range.specs.Range.{is_calendar, rules_for, is_covered, calendar_of, year_asked}
use Rattle.calendar_range.proofs.Covered.{asked_given}

-- the year, of the calendar that was found
pub year_asked_lem : (c y : ℕ) → year_asked c y ≡ then (calendar_of c) (λ k. asking ((is_covered (rules_of k) y, 2) ∷ []) (k, y))
unfolding calendar_of year_asked
year_asked_lem c y = then_asking _ _ _ _

-- ---- is a year covered

module _ (c y : ℕ) where
  pub covered_given : (a : Calendar × ℕ) → year_asked c y ≡ given a → true ≡ (is_calendar c && is_covered (rules_for c) y)
  covered_given a e = let all = ((asked_given c y a).only_if e).0 in rw (all.0, all.1.0)

  pub covered_refused : (n : ℕ) → year_asked c y ≡ refused n → false ≡ (is_calendar c && is_covered (rules_for c) y)
  unfolding year_asked asking
  covered_refused n e = by_tests (is_calendar c) (is_covered (rules_for c) y) _ e
    where
      by_tests : (a b : Bool) (x : Calendar × ℕ) → asking ((a, 1) ∷ (b, 2) ∷ []) x ≡ refused n → false ≡ (a && b)
      by_tests true true x e = absurd (not_refused n x e)
      by_tests true false x e = refl
      by_tests false b x e = refl
