-- Where the two moons of a month stand: the new moon on its first day or, where that day was advanced, on its eve; the full moon on the 14th to the 17th.
use Prim.Native.Nat.{ℕ, ◌+◌, ◌<◌, ◌≤◌, ◌^◌}
use native.Mathlib.Omega.{arith}
use Rattle.senmyo.specs.Phases as SenmyoPhases
use Rattle.senmyo.proofs.PhaseLaws.{advance_is_floor}
use Rattle.senmyo.proofs.NearMean.{full_moon_day}
use Rattle.months_rules.specs.declared.Calendar.{Calendar}
use Rattle.months_rules.specs.declared.Calendar.TheVariants.{Senmyo, Genka}
use Rattle.months_rules.specs.Rules.{rules_of}
use Rattle.months.specs.Months.{MoonDays}
use Rattle.months.specs.Room.{Covering}
use Rattle.months.proofs.CoveredYears.{edges, its_days, starts_covered, ends_covered}

pub moon_days : (c : Calendar) (k : ℕ) → MoonDays (rules_of c) k
unfolding rules_of
moon_days Senmyo k = omega (arith, advance_is_floor (SenmyoPhases.new_moon k), full_moon_day k)
moon_days Genka k = omega arith

-- the first day of a covered month, and the last, beside day number 0
module _ (c : Calendar) (k : ℕ) (h : Covering (rules_of c) k) where
  pub from_start : (rules_of c).day_zero + 3 ≤ (rules_of c).start k
  from_start = omega (arith, starts_covered c k h, (edges c).first_day)

  pub to_end : (rules_of c).start k + 29 < (rules_of c).day_zero + 2 ^ 22
  to_end = omega (arith, (its_days c k h).at_least, ends_covered c k h, (edges c).last_day)
