-- Two answers that mean the same are one, so that a contract that says what an answer means fixes it.
use mathlib.Core.Path.{◌≡◌, ap, subst}
use Prim.Native.Nat.{ℕ}
use Rattle.std.specs.Prelude.{Result}
use Rattle.std.proofs.Props.{props}
use Rattle.answers.specs.declared.Refusal.{Refusal}
use Rattle.answers.proofs.Answers.{one_told_as}
use Rattle.numbers.specs.OneResult.{OneResult}
use Rattle.numbers.proofs.OneResult.{one}
use Rattle.months_rules.specs.declared.Calendar.{Calendar}
use Rattle.months_rules.specs.Rules.{rules_of}
use Rattle.calendar_range.specs.Room.{CoveredYear}
use Rattle.calendar_range.specs.declared.known.KnownYear.{KnownYear}
use Rattle.calendar_range.specs.Answers.{known_year, year_means}
use Rattle.calendar_range.proofs.asked_year.Reads as asked_year
use Rattle.calendar_range.proofs.is_covered.Reads as is_covered_lem

-- a year is known by its calendar and number
pub one_known : (x y : KnownYear) → known_year x ≡ known_year y → x ≡ y
one_known x y h =
    subst
    (λ (p : Calendar × ℕ). (c : CoveredYear (rules_of p.0) p.1) → x ≡ record { calendar = p.0; year = p.1; covered = c })
    h
    (λ c. ap (λ d. record { calendar = x.calendar; year = x.year; covered = d }) (one_covered x.covered c))
    y.covered
  where
    one_covered : IsProp (CoveredYear (rules_of x.calendar) x.year)
    one_covered = hlevel props

pub one_year : (x y : Result KnownYear Refusal) → year_means x ≡ year_means y → x ≡ y
one_year = one_told_as known_year one_known

-- ---- what each public function promises leaves one answer

pub one_asked_year : OneResult asked_year.Learnt
one_asked_year _ _ x y _ _ p q = one_year x y (one p q)

pub one_is_covered : OneResult is_covered_lem.Learnt
one_is_covered _ _ _ _ _ _ = one
