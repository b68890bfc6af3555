-- Month 1 of a year is the one month that has its Rain Water, and later years have later ones.
use mathlib.Core.Path.{◌≡◌, sym}
use Prim.Native.Nat.{ℕ, zero, suc, ◌+◌, ◌*◌, ◌≤◌}
use native.Mathlib.Numerals.{add-one}
use native.Mathlib.Omega.{arith}
use Rattle.numbers.proofs.Spans.{later, span_holds, span_is, span_from}
use Rattle.months_rules.specs.Rules.{Rules, mid}
use Rattle.months_rules.specs.FirstMonths.{HasTerm, month_with, first_month}
use Rattle.months_rules.proofs.Steady.{Steady, terms_grow}

-- a later mid-term falls in a later month, or the same
pub terms_in_order : (r : Rules) → Steady r → (i j : ℕ) → i ≤ j → month_with r i ≤ month_with r j
terms_in_order r s i j h =
    let here = span_holds r.start s.months_grow (mid r i) in
    span_from r.start s.months_grow (month_with r i) (mid r j) (omega (arith, here.from, later (mid r) (terms_grow r s) i j h))

module _ (r : Rules) (s : Steady r) (y : ℕ) where
  pub opens : HasTerm r (first_month r y) (r.rain_water y)
  unfolding first_month
  opens = span_holds r.start s.months_grow _

  pub opened_by : (k : ℕ) → HasTerm r k (r.rain_water y) → k ≡ first_month r y
  unfolding first_month
  opened_by k h = sym (span_is r.start s.months_grow k _ h)

  -- it is found by the first of the year's mid-terms, and the next year's by the twelfth on
  pub first_with : month_with r (r.rain_water y + 0) ≡ first_month r y
  unfolding first_month
  first_with = let e : r.rain_water y + 0 ≡ r.rain_water y = omega arith in rw e

  pub next_with : month_with r (r.rain_water y + 12) ≡ first_month r (y + 1)
  unfolding first_month
  next_with = rw (s.twelve_terms y)

module _ (r : Rules) (s : Steady r) where
  -- twelve mid-terms a year
  pub from_year_0 : (y : ℕ) → r.rain_water y ≡ r.rain_water 0 + 12 * y
  from_year_0 zero = omega arith
  from_year_0 (suc y) = omega (arith, rw add-one at (s.twelve_terms y), from_year_0 y)

  -- a later year has a later month 1, or the same
  pub years_in_order : (y z : ℕ) → y ≤ z → first_month r y ≤ first_month r z
  unfolding first_month
  years_in_order y z h = terms_in_order r s (r.rain_water y) (r.rain_water z) (omega (arith, from_year_0 y, from_year_0 z))

  pub in_order : (y n : ℕ) → first_month r y ≤ first_month r (y + n)
  in_order y n = years_in_order y (y + n) (omega arith)
