-- How near every new moon is to its mean, by the bounds of the corrections, and what that tells of every month.
use Prim.Native.Nat.{ℕ, ◌+◌, ◌-◌, ◌*◌, ◌<◌, ◌≤◌}
use native.Mathlib.Omega.{arith}
use Rattle.std.proofs.lemmas.Int.{ints}
use Rattle.numbers.proofs.Spans.{Growing}
use Rattle.units.specs.Units.{whole_days, fen_to_byo}
use Rattle.senmyo_means.specs.Means.{mean_new_moon, mean_full_moon}
use Rattle.senmyo.specs.Phases.{new_moon, new_moon_day}
use Rattle.senmyo.specs.FullMoons.{full_moon_fen}
use Rattle.senmyo.specs.Room.{latest_month, sure_month}
use Rattle.senmyo.proofs.PhaseLaws.{corrections_between, new_moon_exact, full_moon_exact, advance_is_floor}

-- where new moon k lies, beside its mean
beside_mean : (k : ℕ) → ((new_moon k).0 ≤ 248057 * k + 4751) × (248057 * k ≤ (new_moon k).0 + 4721)
beside_mean k = omega (arith, ints, new_moon_exact k, corrections_between (fen_to_byo (mean_new_moon k)))

pub new_moon_small : (k : ℕ) → (new_moon k).0 ≤ 248057 * k + 4751
new_moon_small k = (beside_mean k).0

-- .. and its day
pub record NearMean (k : ℕ) : Type 0 where
  pub not_late : 8400 * new_moon_day k ≤ 248057 * k + 6851
  pub not_early : 248057 * k < 8400 * new_moon_day k + 11021

pub near_mean : (k : ℕ) → NearMean k
near_mean k =
    let near = beside_mean k in
    let day = advance_is_floor (new_moon k) in
    record { not_late = omega (arith, near, day); not_early = omega (arith, near, day) }

pub new_moons_grow : Growing new_moon_day
new_moons_grow = record { zeroth = omega (arith, near_mean 0); grows = λ k. omega (arith, near_mean k, near_mean (k + 1)) }

-- 174 months take more than 5,114 days, which the mid-terms of 14 years do not
pub months_of_14_years : (k : ℕ) → new_moon_day k + 5114 < new_moon_day (k + 174)
months_of_14_years k = omega (arith, near_mean k, near_mean (k + 174))

-- the last month that may begin by a day has that day, or the month before has it
pub latest_begun : (d : ℕ) → new_moon_day (latest_month d - 1) ≤ d
latest_begun d = omega (arith, near_mean (latest_month d - 1))

pub none_later : (d : ℕ) → d < new_moon_day (latest_month d + 1)
none_later d = omega (arith, near_mean (latest_month d + 1))

-- .. and the last that must begin by a day has begun
pub sure_begun : (d : ℕ) → new_moon_day (sure_month d) ≤ d
sure_begun d = omega (arith, near_mean (sure_month d))

-- the full moon falls on the 14th to the 17th day of its month
pub record InMidst (k : ℕ) : Type 0 where
  pub from : new_moon_day k + 13 ≤ whole_days (full_moon_fen k)
  pub to : whole_days (full_moon_fen k) ≤ new_moon_day k + 16

pub full_moon_day : (k : ℕ) → InMidst k
full_moon_day k =
    let moment = full_moon_exact k in
    let both = corrections_between (mean_full_moon k) in
    record { from = omega (arith, ints, near_mean k); to = omega (arith, ints, near_mean k) }
