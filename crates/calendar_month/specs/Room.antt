-- What an inner function finds. No rule of the calendar.
use Rattle.std.specs.Prelude.{Bool, [], ◌∷◌, ℕ}
use Rattle.answers.specs.Answer.{Answer}
use Rattle.answers.specs.Conditions.{asking}
use Rattle.months_rules.specs.declared.Calendar.{Calendar}
use Rattle.months_rules.specs.Rules.{Rules, rules_of}
use Rattle.calendar_month.specs.Asked.{month_named, has_month}

-- the number of a month's new moon, where `begun` has the first day too
abbrev pub moon_number : Rules → ℕ → ℕ
moon_number r k = k

-- what is told of the month that is named in a year, or the refusal
abbrev pub in_year : {A : Type 0} → (Rules → ℕ → A) → Calendar → ℕ → ℕ → Bool → Answer (Calendar × A)
in_year what c y m leap = asking ((has_month (rules_of c) y m leap, 3) ∷ []) (c, what (rules_of c) (month_named (rules_of c) y m leap))
