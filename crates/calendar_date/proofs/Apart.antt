-- Refusals have small numbers, and covered days and years large ones, so that one number can tell which it is.
use mathlib.Core.Path.{◌≡◌, refl}
use mathlib.Core.Bool.{Bool}
use Prim.Native.Nat.{ℕ, ◌+◌, ◌<◌, ◌≤◌}
use native.Mathlib.Omega.{arith}
use Rattle.answers.specs.Answer.{given, refused}
use Rattle.answers.proofs.Conditions.{small_refused}
use Rattle.months_rules.specs.declared.Calendar.{Calendar}
use Rattle.months_rules.specs.declared.Calendar.TheVariants.{Senmyo, Genka}
use Rattle.months_rules.specs.Rules.{rules_of}
use Rattle.months_rules.proofs.Figures.{senmyo_opens, genka_opens}
use Rattle.calendar_range.specs.Range.{numbered, rules_for}
use Rattle.calendar_range.specs.Room.{CoveredYear}
use Rattle.calendar_range.proofs.Covered.{covered_year_told}
use Rattle.calendar_month.specs.Asked.{day_conditions}
use Rattle.calendar_date.specs.declared.Date.{Date}
use Rattle.calendar_date.specs.Dates.{day_of, date_conditions, date_of}
use Rattle.calendar_date.specs.Room.{CoveredDay}
use Rattle.calendar_date.proofs.Covered.{covered_day_told}
use Rattle.calendar_date.proofs.Refusals.{day_given, date_given}
use Rattle.calendar_date.proofs.OneDate.{date_of_day_of, day_of_date_of}

-- ---- a date's day

covered_large : (c : Calendar) (n : ℕ) → CoveredDay (rules_of c) (n + (rules_of c).day_zero) → 100 ≤ n
unfolding rules_of
covered_large Senmyo n h = omega (arith, h.from, senmyo_opens)
covered_large Genka n h = omega (arith, h.from, genka_opens)

module _ (c y m : ℕ) (leap : Bool) (d n : ℕ) where
  pub day_refusal_small : day_of c y m leap d ≡ refused n → n < 100
  unfolding day_of
  day_refusal_small = small_refused (day_conditions c y m leap d) _ n 100 refl

  pub day_large : day_of c y m leap d ≡ given n → 100 ≤ n
  day_large e = covered_large (numbered c) n (covered_day_told (numbered c) n ((date_given c n _).only_if (date_of_day_of c y m leap d n e)).0.1.0)

-- ---- a day's date

first_large : (c : Calendar) (y : ℕ) → CoveredYear (rules_of c) y → 445 ≤ y
unfolding rules_of
first_large Senmyo y h = omega (arith, h.from)
first_large Genka y h = omega (arith, h.from)

module _ (c n : ℕ) where
  pub date_refusal_small : (m : ℕ) → date_of c n ≡ refused m → m < 100
  unfolding date_of
  date_refusal_small m = small_refused (date_conditions c n) _ m 100 refl

  pub date_year_large : (t : Date) → date_of c n ≡ given t → 445 ≤ t.year
  date_year_large t e =
      let g = (day_given c t.year t.month t.leap t.day n).only_if (day_of_date_of c n t e) in
      first_large (numbered c) t.year (covered_year_told (rules_for c) t.year g.0.1.0)
