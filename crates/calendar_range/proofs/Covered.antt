-- A covered year as tests tell it, and that a year which is asked for is given only if it is covered.
use mathlib.Core.Path.{◌≡◌, subst}
use mathlib.Core.Bool.{true, and-eq-true_iff}
use Prim.Native.Nat.{ℕ}
use lib.Dec.{leb}
use borrow.Author.Tests.{leb-true, le-leb}
use Rattle.answers.specs.Answer.{given}
use Rattle.answers.specs.Conditions.{AllHold, Exactly}
use Rattle.answers.proofs.Conditions.{given_exactly}
use Rattle.months_rules.specs.declared.Calendar.{Calendar}
use Rattle.months_rules.specs.Rules.{Rules, rules_of}
use Rattle.calendar_range.specs.Range.{numbered, rules_for, is_covered, year_conditions, year_asked}
use Rattle.calendar_range.specs.Room.{CoveredYear}

pub asked_given : (c y : ℕ) (a : Calendar × ℕ) → Exactly (year_asked c y ≡ given a) (AllHold (year_conditions c y) × ((numbered c, y) ≡ a))
unfolding year_asked
asked_given c y a = given_exactly _ _ a

pub covered_year_told : (r : Rules) (y : ℕ) → is_covered r y ≡ true → CoveredYear r y
covered_year_told r y h =
    let (low, high) = (and-eq-true_iff (leb r.first_year y) (leb y r.last_year)).0 h in
    record { from = leb-true _ _ low; to = leb-true _ _ high }

pub covered_year_tested : (r : Rules) (y : ℕ) → CoveredYear r y → is_covered r y ≡ true
covered_year_tested r y h = rw (le-leb _ _ h.from, le-leb _ _ h.to)

-- a year that is asked for and known is covered
pub asked_covered : (c y : ℕ) (k : Calendar) (x : ℕ) → year_asked c y ≡ given (k, x) → CoveredYear (rules_of k) x
asked_covered c y k x e =
    let g = (asked_given c y (k, x)).only_if e in
    subst (λ (a : Calendar × ℕ). CoveredYear (rules_of a.0) a.1) g.1 (covered_year_told (rules_for c) y g.0.1.0)
