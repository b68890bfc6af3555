-- The calls' definitions, step by step as the code takes them.
use mathlib.Core.Path.{◌≡◌}
use mathlib.Core.Bool.{Bool}
use Prim.Native.Nat.{ℕ}
use Rattle.answers.specs.Answer.{given, then}
use Rattle.answers.proofs.Conditions.{then_given}
use Rattle.months_rules.specs.Rules.{Rules, rules_of}
use Rattle.calendar_month.specs.Asked.{moon_asked}
use Rattle.calendar_moons.specs.Instants.{of_month}

-- what is asked of a month is told of the month that was found
pub of_asked : {A : Type 0} (what : Rules → ℕ → A) (c y m : ℕ) (leap : Bool) → of_month what c y m leap ≡ then (moon_asked c y m leap) (λ a. given (what (rules_of a.0) a.1))
unfolding moon_asked of_month
of_asked what c y m leap = then_given _ _ _
