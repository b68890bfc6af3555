-- The day of a covered full moon has a day number, and so have the days beside it.
use Prim.Native.Nat.{ℕ, ◌+◌, ◌<◌, ◌^◌}
use native.Mathlib.Omega.{arith}
use Rattle.units.specs.Units.{whole_days}
use Rattle.senmyo.specs.FullMoons.{full_moon_fen}
use Rattle.months_rules.specs.declared.Calendar.TheVariants.{Senmyo}
use Rattle.months_rules.specs.Rules.{senmyo, rules_of}
use Rattle.months.specs.Room.{Covering}
use Rattle.months.proofs.Moments.{moon_days, from_start, to_end}

pub record HasDayNumber (d : ℕ) : Type 0 where
  pub from : senmyo.day_zero < d
  pub to : d + 1 < senmyo.day_zero + 2 ^ 22

pub full_numbered : (k : ℕ) → Covering senmyo k → HasDayNumber (whole_days (full_moon_fen k))
unfolding rules_of
full_numbered k h =
    let days = moon_days Senmyo k in
    record { from = omega (arith, days.full_from, from_start Senmyo k h); to = omega (arith, days.full_to, to_end Senmyo k h) }
