-- Refusal 3, exactly: in a covered year the month that is asked for is there if and only if some month of the year has that name, and no two have it.
use mathlib.Core.Path.{◌≡◌, sym, subst, ◌∙◌}
use mathlib.Core.Bool.{Bool, true}
use Prim.Native.Nat.{ℕ}
use Rattle.answers.specs.Conditions.{Exactly}
use Rattle.months_rules.specs.declared.Calendar.{Calendar}
use Rattle.months_rules.specs.Rules.{Rules, rules_of}
use Rattle.months_rules.proofs.Calendars.{steady}
use Rattle.months.specs.Months.{is_leap}
use Rattle.months.proofs.CoveredYears.{covered_year}
use Rattle.calendar_range.specs.Room.{CoveredYear}
use Rattle.calendar_month.specs.Asked.{month_named, has_month}
use Rattle.calendar_month.specs.Names.{Named}
use Rattle.calendar_month.proofs.Names.{named, named_back}

module _ (c : Calendar) (y : ℕ) (covered : CoveredYear (rules_of c) y) (m : ℕ) (leap : Bool) where
  abbrev r : Rules
  r = rules_of c

  abbrev Found : ℕ → ℕ → Bool → Type 0
  Found k m leap = (has_month r y m leap ≡ true) × (month_named r y m leap ≡ k)

  -- a month that has the name is the one that is found
  found_by_name : (k : ℕ) → Named r y m leap k → Found k m leap
  found_by_name k n =
      let back = named_back r (steady c) y (covered_year c y covered.from covered.to).months k n.of_year in
      subst (λ (b : Bool). Found k m b) n.is_leap_lem (subst (λ (i : ℕ). Found k i (is_leap r k)) n.number (back.has, back.back))

  pub has_month_lem : Exactly (has_month r y m leap ≡ true) ((k : ℕ) × Named r y m leap k)
  has_month_lem =
      record {
        if = λ n. (found_by_name n.0 n.1).0;
        only_if = λ h. (month_named r y m leap, named r (steady c) y (covered_year c y covered.from covered.to).months m leap h);
      }

  pub one_named : (k l : ℕ) → Named r y m leap k → Named r y m leap l → k ≡ l
  one_named k l n o = sym (found_by_name k n).1 ∙ (found_by_name l o).1
