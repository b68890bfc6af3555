-- The year's definition, step by step as the code takes it: the months of the year that was found.
use mathlib.Core.Path.{◌≡◌}
use Prim.Native.Nat.{ℕ}
use Rattle.answers.specs.Answer.{given, then}
use Rattle.answers.proofs.Conditions.{then_given}
use Rattle.months_rules.specs.Rules.{rules_of}
use Rattle.calendar_range.specs.Range.{year_asked}
use Rattle.calendar_year.specs.Years.{year_in, year_of}

pub months_asked : (c y : ℕ) → year_of c y ≡ then (year_asked c y) (λ a. given (year_in (rules_of a.0) a.1))
unfolding year_asked year_of
months_asked c y = then_given _ _ _
