-- What is asked for and found is covered.
use mathlib.Core.Path.{◌≡◌, refl, subst}
use mathlib.Core.Bool.{Bool, true, and-eq-true_iff}
use Prim.Native.Nat.{ℕ, ◌≤◌}
use native.Mathlib.Omega.{arith}
use lib.Dec.{leb}
use borrow.Author.Tests.{leb-true}
use Rattle.answers.specs.Answer.{given}
use Rattle.answers.proofs.Conditions.{given_exactly}
use Rattle.months_rules.specs.declared.Calendar.{Calendar}
use Rattle.months_rules.specs.declared.Begun.{Begun}
use Rattle.months_rules.specs.Rules.{Rules, rules_of}
use Rattle.months_rules.specs.FirstMonths.{begun}
use Rattle.months_rules.proofs.Calendars.{steady}
use Rattle.months.specs.Months.{month_length}
use Rattle.months.specs.Year.{OfYear}
use Rattle.months.specs.Room.{Covering, CoveredMonth}
use Rattle.months.proofs.CoveredYears.{covered_year, its_days, covering}
use Rattle.calendar_range.specs.Room.{CoveredYear}
use Rattle.calendar_range.specs.Range.{numbered, rules_for, is_covered}
use Rattle.calendar_range.proofs.Covered.{covered_year_told}
use Rattle.calendar_month.specs.Room.{in_year}
use Rattle.calendar_month.specs.Names.{Named, NextTerm}
use Rattle.calendar_month.specs.Asked.{has_month, month_named, moon_asked, month_asked}
use Rattle.calendar_month.proofs.Given.{moon_given, month_given}
use Rattle.calendar_month.proofs.Names.{named, next_term}

-- ---- the month that is asked for is covered

module _ (c : Calendar) (y : ℕ) (covered : CoveredYear (rules_of c) y) where
  pub name_found : (m : ℕ) (leap : Bool) → has_month (rules_of c) y m leap ≡ true → Named (rules_of c) y m leap (month_named (rules_of c) y m leap)
  name_found m leap h = named (rules_of c) (steady c) y (covered_year c y covered.from covered.to).months m leap h

  pub month_covering : (k : ℕ) → OfYear (rules_of c) y k → Covering (rules_of c) k
  month_covering k h = covering c y k covered.from covered.to h

  pub next_found : (m : ℕ) → 1 ≤ m → m ≤ 12 → NextTerm (rules_of c) y m
  next_found m low high = next_term (rules_of c) (steady c) y (covered_year c y covered.from covered.to).months m low high

  pub named_covered : (m : ℕ) (leap : Bool) (a : Calendar × Begun) → in_year begun c y m leap ≡ given a → CoveredMonth (rules_of c) a.1
  named_covered m leap a e =
      let r = rules_of c in
      let k = month_named r y m leap in
      let g = (given_exactly _ _ a).only_if e in
      subst (λ (a : Calendar × Begun). CoveredMonth r a.1) g.1 (record { own = refl; covering = month_covering k (name_found m leap g.0.0).of_year })

-- ---- the month that is asked for and found

module _ (c y m : ℕ) (leap : Bool) where
  abbrev its_rules_lem : Rules
  its_rules_lem = rules_for c

  abbrev its_month : ℕ
  its_month = month_named its_rules_lem y m leap

  its_covering : is_covered its_rules_lem y ≡ true → has_month its_rules_lem y m leap ≡ true → Covering its_rules_lem its_month
  its_covering in_time has =
      let covered = covered_year_told its_rules_lem y in_time in
      month_covering (numbered c) y covered its_month (name_found (numbered c) y covered m leap has).of_year

  pub asked_moon_covered : (a : Calendar × ℕ) → moon_asked c y m leap ≡ given a → Covering (rules_of a.0) a.1
  asked_moon_covered a e =
      let g = (moon_given c y m leap a).only_if e in
      subst (λ (a : Calendar × ℕ). Covering (rules_of a.0) a.1) g.1 (its_covering g.0.1.0 g.0.1.1.0)

  module _ (d : ℕ) (a : Calendar × Begun) (e : month_asked c y m leap d ≡ given a) where
    pub asked_month_covered : CoveredMonth (rules_of a.0) a.1
    asked_month_covered =
        let g = (month_given c y m leap d a).only_if e in
        subst (λ (a : Calendar × Begun). CoveredMonth (rules_of a.0) a.1) g.1
        (record { own = refl; covering = its_covering g.0.1.0 g.0.1.1.0 })

    -- the day is one of 1 to 30
    pub asked_day : (1 ≤ d) × (d ≤ 30)
    asked_day =
        let g = (month_given c y m leap d a).only_if e in
        let (low, high) = (and-eq-true_iff (leb 1 d) (leb d (month_length its_rules_lem its_month))).0 g.0.1.1.1.0 in
        (leb-true _ _ low, omega (arith, leb-true d _ high, (its_days (numbered c) its_month (its_covering g.0.1.0 g.0.1.1.0)).at_most))
