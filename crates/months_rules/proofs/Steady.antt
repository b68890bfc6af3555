-- What the laws of months ask of a calendar.
use mathlib.Core.Path.{◌≡◌}
use Prim.Native.Nat.{ℕ, ◌+◌, ◌*◌, ◌<◌, ◌≤◌}
use Rattle.numbers.specs.Spans.{Takes}
use Rattle.numbers.proofs.Spans.{Growing}
use Rattle.cycles.specs.Cycles.{Apart}
use Rattle.cycles.proofs.CycleLaws.{takes, grow}
use Rattle.months_rules.specs.Rules.{Rules, mid, term_number}

-- months start one after the other, from a mid-term to the next it is 30 to 31 days, and a year has twelve of them, numbered from its Rain Water on
pub record Steady (r : Rules) : Type 0 where
  pub months_grow : Growing r.start
  pub apart : Apart r.terms
  pub at_least_30 : 30 * r.terms.of_day ≤ r.terms.spacing
  pub at_most_31 : r.terms.spacing ≤ 31 * r.terms.of_day
  pub twelve_terms : (y : ℕ) → r.rain_water (y + 1) ≡ r.rain_water y + 12
  pub numbers : (y i : ℕ) → i < 12 → term_number r (r.rain_water y + i) ≡ i + 1

module _ (r : Rules) (s : Steady r) where
  pub terms_grow : Growing (mid r)
  terms_grow = grow r.terms s.apart

  pub terms_apart : (j : ℕ) → Takes (mid r) j 30 31
  terms_apart j = takes r.terms s.apart 30 31 s.at_least_30 s.at_most_31 j
