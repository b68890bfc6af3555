-- Fourteen consecutive years have at most 174 months, in any calendar whose mid-terms of fourteen years take less than 174 months do.
use mathlib.Core.Path.{◌≡◌}
use Prim.Native.Nat.{ℕ, ◌+◌, ◌*◌, ◌<◌, ◌≤◌}
use native.Mathlib.Omega.{arith}
use Rattle.numbers.proofs.Spans.{later, span_to}
use Rattle.cycles.proofs.CycleLaws.{at_least, at_most}
use Rattle.senmyo.proofs.NearMean.{months_of_14_years}
use Rattle.genka.specs.Genka.{new_moons}
use Rattle.months_rules.specs.declared.Calendar.{Calendar}
use Rattle.months_rules.specs.declared.Calendar.TheVariants.{Senmyo, Genka}
use Rattle.months_rules.specs.Rules.{Rules, mid, senmyo, genka, rules_of}
use Rattle.months_rules.specs.FirstMonths.{first_month}
use Rattle.months_rules.proofs.Steady.{Steady, terms_grow}
use Rattle.months_rules.proofs.FirstMonths.{from_year_0, opens}
use Rattle.months_rules.proofs.Calendars.{senmyo_steady, genka_steady}

record Fourteen (r : Rules) : Type 0 where
  months : (k : ℕ) → r.start k + 5114 < r.start (k + 174)
  terms : 168 * r.terms.spacing ≤ 5114 * r.terms.of_day

module _ (r : Rules) (s : Steady r) where
  -- n years on, at most 14, lies before the end of 174 months
  ends : (y n : ℕ) → n ≤ 14 → Fourteen r → first_month r (y + n) ≤ first_month r y + 174
  unfolding first_month
  ends y n h f =
      let R = r.rain_water y in
      let twelve : r.rain_water (y + n) ≤ R + 168 = omega (arith, from_year_0 r s y, from_year_0 r s (y + n)) in
      let late = later (mid r) (terms_grow r s) (r.rain_water (y + n)) (R + 168) twelve in
      let e : (first_month r y + 1) + 174 ≡ first_month r y + 174 + 1 = omega arith in
      let many : r.start (first_month r y + 1) + 5114 < r.start (first_month r y + 174 + 1) = rw e at (f.months (first_month r y + 1)) in
      let few = at_most r.terms s.apart 168 5114 f.terms R in
      span_to r.start s.months_grow (first_month r y + 174) _ (omega (arith, few, (opens r s y).to))

pub at_most_174 : (c : Calendar) (y n : ℕ) → n ≤ 14 → first_month (rules_of c) (y + n) ≤ first_month (rules_of c) y + 174
unfolding rules_of
at_most_174 Senmyo y n h = ends senmyo senmyo_steady y n h (record { months = months_of_14_years; terms = omega arith })
at_most_174 Genka y n h =
    ends genka genka_steady y n h
    (record { months = λ k. omega (arith, at_least new_moons (omega arith) 174 5115 (omega arith) k); terms = omega arith })
