-- Both calendars are steady, and their months and mid-terms are small enough for the words that count them.
use mathlib.Core.Path.{◌≡◌}
use Prim.Native.Nat.{ℕ, ◌*◌, ◌<◌, ◌≤◌, ◌^◌}
use native.Mathlib.Omega.{arith}
use Rattle.numbers.proofs.Spans.{span_holds, one_span}
use Rattle.senmyo.proofs.NearMean.{near_mean, new_moons_grow}
use Rattle.months_rules.specs.declared.Calendar.{Calendar}
use Rattle.months_rules.specs.declared.Calendar.TheVariants.{Senmyo, Genka}
use Rattle.months_rules.specs.Rules.{Rules, senmyo, genka, rules_of}
use Rattle.months_rules.specs.FirstMonths.{Has, month_of}
use Rattle.months_rules.proofs.Steady.{Steady}

pub senmyo_steady : Steady senmyo
senmyo_steady =
    record {
      months_grow = new_moons_grow;
      apart = omega arith;
      at_least_30 = omega arith;
      at_most_31 = omega arith;
      twelve_terms = omega arith;
      numbers = omega arith;
    }

pub genka_steady : Steady genka
genka_steady = omega arith

pub steady : (c : Calendar) → Steady (rules_of c)
unfolding rules_of
steady Senmyo = senmyo_steady
steady Genka = genka_steady

-- ---- the words that count them

pub record Sizes (r : Rules) : Type 0 where
  pub start_size : (k : ℕ) → r.start k ≤ 30 * k
  pub zeroth_from : 1 ≤ r.zeroth_number
  pub zeroth_to : r.zeroth_number ≤ 12
  pub year_size : r.last_year < 2 ^ 16

pub sizes : (c : Calendar) → Sizes (rules_of c)
unfolding rules_of
sizes Senmyo =
    record {
      start_size = λ k. omega (arith, near_mean k);
      zeroth_from = omega arith;
      zeroth_to = omega arith;
      year_size = omega arith;
    }
sizes Genka = omega arith

-- ---- each day has a month, the one that is found, and no day has two

pub month_found_has : (c : Calendar) (d : ℕ) → Has (rules_of c) (month_of (rules_of c) d) d
month_found_has c d = span_holds (rules_of c).start (steady c).months_grow d

pub one_month_of_day : (c : Calendar) (d k l : ℕ) → Has (rules_of c) k d → Has (rules_of c) l d → k ≡ l
one_month_of_day c d k l h g = one_span (rules_of c).start (steady c).months_grow k l d h g
