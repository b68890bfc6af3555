-- The moons of a covered month have Julian dates: they stand near its first day.
use mathlib.Core.Path.{◌≡◌, refl}
use Prim.Native.Nat.{ℕ, ◌+◌, ◌%◌, ◌<◌, ◌≤◌, ◌^◌}
use native.Mathlib.Nat.{mod-lt}
use native.Mathlib.Omega.{arith}
use Rattle.months_rules.specs.declared.Calendar.{Calendar}
use Rattle.months_rules.specs.declared.Calendar.TheVariants.{Senmyo, Genka}
use Rattle.months_rules.specs.declared.Moment.{Moment}
use Rattle.months_rules.specs.Rules.{Rules, days_at, rules_of}
use Rattle.months.specs.Room.{Covering}
use Rattle.months.proofs.Moments.{moon_days, from_start, to_end}
use Rattle.calendar_moons.specs.Instants.{ExactNumerator}
use Rattle.calendar_moons.specs.Room.{Phase, New, Full, moment_in, Dated}

-- units of a day: some, few, and an even number
record Units (t : Moment) : Type 0 where
  some : 0 < t.of_day
  few : t.of_day ≤ 2 ^ 20
  even : t.of_day % 2 ≡ 0

moon_units : (c : Calendar) (phase : Phase) (k : ℕ) → Units (moment_in phase (rules_of c) k)
unfolding rules_of
moon_units Senmyo New k = record { some = omega arith; few = omega arith; even = refl }
moon_units Senmyo Full k = record { some = omega arith; few = omega arith; even = refl }
moon_units Genka New k = record { some = omega arith; few = omega arith; even = refl }
moon_units Genka Full k = record { some = omega arith; few = omega arith; even = refl }

-- a moment of a day that has a day number
dated : (r : Rules) (t : Moment) → Units t → r.day_zero + 2 ≤ days_at t → days_at t < r.day_zero + 2 ^ 22 → Dated r t
dated r t u from to =
    record {
      after_zero = omega (arith, from);
      datable = record { from = omega (arith, from); to = omega (arith, from, to); in_day = mod-lt _ u.some; few_parts = u.few; even = u.even };
    }

module _ (c : Calendar) (k : ℕ) (h : Covering (rules_of c) k) where
  pub moon_dated : (phase : Phase) → Dated (rules_of c) (moment_in phase (rules_of c) k)
  moon_dated New =
      let days = moon_days c k in
      dated (rules_of c) _ (moon_units c New k) (omega (arith, days.new_from, from_start c k h)) (omega (arith, days.new_to, to_end c k h))
  moon_dated Full =
      let days = moon_days c k in
      dated (rules_of c) _ (moon_units c Full k) (omega (arith, days.full_from, from_start c k h)) (omega (arith, days.full_to, to_end c k h))

-- ---- the numerator of an instant, over whole numbers

pub moon_exact : (c : Calendar) (phase : Phase) (k : ℕ) → Covering (rules_of c) k → ExactNumerator (rules_of c) (moment_in phase (rules_of c) k)
unfolding rules_of
moon_exact Senmyo New k h = let t = moon_dated Senmyo k h New in record { doubled = omega (arith, t.after_zero, t.datable.from) }
moon_exact Senmyo Full k h = let t = moon_dated Senmyo k h Full in record { doubled = omega (arith, t.after_zero, t.datable.from) }
moon_exact Genka New k h = let t = moon_dated Genka k h New in record { doubled = omega (arith, t.after_zero, t.datable.from) }
moon_exact Genka Full k h = let t = moon_dated Genka k h Full in record { doubled = omega (arith, t.after_zero, t.datable.from) }
