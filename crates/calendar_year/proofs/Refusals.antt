-- When a year is given and when it is refused, exactly (01, "Refusal numbers"): the first condition that fails names the refusal.
use mathlib.Core.Path.{◌≡◌, sym}
use mathlib.Core.Bool.{true, false}
use Prim.Native.Nat.{ℕ}
use lib.ListN.{length}
use Rattle.answers.specs.Answer.{given, refused}
use Rattle.answers.specs.Conditions.{AllHold, FirstFails, Exactly}
use Rattle.answers.proofs.Conditions.{given_exactly, refused_exactly}
use Rattle.numbers.proofs.Places.{length_places}
use Rattle.calendar_range.specs.Range.{is_calendar, rules_for, is_covered, year_conditions}
use Rattle.calendar_year.specs.declared.Year.{Year}
use Rattle.calendar_year.specs.Years.{listed, no_month, year_in, year_of}

module _ (c y : ℕ) where
  pub year_given : (x : Year) → Exactly (year_of c y ≡ given x) (AllHold (year_conditions c y) × (year_in (rules_for c) y ≡ x))
  unfolding year_of
  year_given x = given_exactly _ _ x

  pub year_refused : (n : ℕ) → Exactly (year_of c y ≡ refused n) (FirstFails (year_conditions c y) n)
  unfolding year_of
  year_refused n = refused_exactly _ _ n

  pub year_refused_1 : Exactly (year_of c y ≡ refused 1) (is_calendar c ≡ false)
  year_refused_1 = year_refused 1

  pub year_refused_2 : Exactly (year_of c y ≡ refused 2) ((is_calendar c ≡ true) × (is_covered (rules_for c) y ≡ false))
  year_refused_2 = year_refused 2

-- a year that is given has thirteen places for months
pub thirteen_places : (c y : ℕ) (x : Year) → year_of c y ≡ given x → length x.months ≡ 13
unfolding year_in
thirteen_places c y x e = rw (sym ((year_given c y x).only_if e).1) (length_places no_month (listed (rules_for c)) _ _ 13)
