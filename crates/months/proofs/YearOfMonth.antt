-- The year of a month is told by the last mid-term by its end, which is one of the twelve of that year.
use mathlib.Core.Path.{◌≡◌}
use Prim.Native.Nat.{ℕ, ◌+◌, ◌<◌, ◌≤◌}
use native.Mathlib.Omega.{arith}
use Rattle.numbers.proofs.Spans.{later, not_after, found, begun_to}
use Rattle.months_rules.specs.Rules.{Rules, mid}
use Rattle.months_rules.specs.FirstMonths.{first_month}
use Rattle.months_rules.specs.Room.{term_year}
use Rattle.months_rules.proofs.Steady.{Steady, terms_grow}
use Rattle.months_rules.proofs.FirstMonths.{opens, from_year_0, years_in_order}
use Rattle.months.specs.Months.{year_with, last_term}
use Rattle.months.specs.Year.{OfYear}
use Rattle.months.specs.Room.{Covering}
use Rattle.months.proofs.Terms.{last_term_lem}

module _ (r : Rules) (s : Steady r) where
  -- from month 1 of a year on, its Rain Water has fallen by the end of a month ..
  rain_water_by : (y k : ℕ) → first_month r y ≤ k → r.rain_water y ≤ last_term r k
  rain_water_by y k h =
      let begun = later r.start s.months_grow (first_month r y + 1) (k + 1) (omega arith) in
      not_after (mid r) (terms_grow r s) (r.rain_water y) (last_term r k) _ (omega (arith, (opens r s y).to)) (last_term_lem r s k).to

  -- .. and before the next year's month 1 its Rain Water has not
  no_rain_water_by : (y k : ℕ) → k < first_month r (y + 1) → last_term r k < r.rain_water y + 12
  no_rain_water_by y k h =
      let twelve_on : r.rain_water (y + 1) ≡ r.rain_water y + 11 + 1 = omega (arith, s.twelve_terms y) in
      let next : r.start (first_month r (y + 1)) ≤ mid r (r.rain_water y + 11 + 1) = rw twelve_on at (opens r s (y + 1)).from in
      let ended = later r.start s.months_grow (k + 1) (first_month r (y + 1)) (omega arith) in
      let grown = s.months_grow.grows k in
      let last = not_after (mid r) (terms_grow r s) (last_term r k) (r.rain_water y + 11) _ (last_term_lem r s k).from (omega arith) in
      omega arith

  -- the last mid-term by the end of a month is one of the twelve that its year has
  dozen : (y k : ℕ) → OfYear r y k → (r.rain_water y ≤ last_term r k) × (last_term r k < r.rain_water y + 12)
  dozen y k h = (rain_water_by y k h.from, no_rain_water_by y k h.to)

  -- no month is of two years
  pub one_year : (y z k : ℕ) → OfYear r y k → OfYear r z k → y ≡ z
  one_year y z k h g = omega (arith, from_year_0 r s y, from_year_0 r s z, dozen y k h, dozen z k g)

  module _ (k : ℕ) (c : Covering r k) where
    pub year_holds : OfYear r (year_with r k) k
    unfolding year_with
    year_holds = found (first_month r) k r.last_year (omega (arith, c.from, years_in_order r s 0 r.first_year (omega arith))) c.to

    -- the Rain Water of the first covered year has fallen by its end
    pub rain_water_fallen : r.rain_water r.first_year ≤ last_term r k
    rain_water_fallen = rain_water_by r.first_year k c.from

    -- it is a covered year
    pub year_from_lem : r.first_year ≤ year_with r k
    year_from_lem = omega (arith, from_year_0 r s r.first_year, from_year_0 r s (year_with r k), rain_water_fallen, dozen (year_with r k) k year_holds)

    pub year_to : year_with r k ≤ r.last_year
    unfolding year_with
    year_to = begun_to (first_month r) k r.last_year

    pub year_is : (y : ℕ) → OfYear r y k → year_with r k ≡ y
    year_is y h = one_year (year_with r k) y k year_holds h

    -- the year is told by the last mid-term: one for each dozen after the Rain Water of year 0
    pub year_told : term_year r (last_term r k) ≡ year_with r k
    year_told = omega (arith, from_year_0 r s (year_with r k), dozen (year_with r k) k year_holds)
