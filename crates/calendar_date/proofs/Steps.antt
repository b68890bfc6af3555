-- The calls' definitions, step by step as the code takes them: each asks more of what another found.
use mathlib.Core.Path.{◌≡◌}
use mathlib.Core.Bool.{Bool}
use mathlib.Core.List.{[], ◌∷◌}
use Prim.Native.Nat.{ℕ, ◌+◌, ◌-◌}
use Rattle.answers.specs.Answer.{given, then}
use Rattle.answers.specs.Conditions.{asking}
use Rattle.answers.proofs.Conditions.{then_asking, then_given}
use Rattle.months_rules.specs.Rules.{rules_of, day_number}
use Rattle.calendar_range.specs.Range.{calendar_of}
use Rattle.calendar_month.specs.Asked.{month_asked}
use Rattle.calendar_date.specs.Dates.{day_of, is_covered_day, date_in, date_of}

pub day_asked : (c y m : ℕ) (leap : Bool) (d : ℕ) → day_of c y m leap d ≡ then (month_asked c y m leap d) (λ a. given (day_number (rules_of a.0) (a.1.start + d - 1)))
unfolding month_asked day_of
day_asked c y m leap d = then_given _ _ _

pub date_asked : (c n : ℕ) → date_of c n ≡ then (calendar_of c) (λ k. asking ((is_covered_day (rules_of k) n, 5) ∷ []) (date_in (rules_of k) (n + (rules_of k).day_zero)))
unfolding calendar_of date_of
date_asked c n = then_asking _ _ _ _
