-- The means of Genka agree with each other as 01 says, and its months have 29 or 30 days.
use mathlib.Core.Path.{◌≡◌}
use Prim.Native.Nat.{ℕ, ◌+◌, ◌*◌, ◌/◌}
use native.Mathlib.Omega.{arith}
use Rattle.numbers.specs.Spans.{Takes}
use Rattle.cycles.proofs.CycleLaws.{takes}
use Rattle.genka.specs.Genka.{new_moons, new_moon, new_moon_day, full_moon, mid_term_day, years_since_origin, rain_water}

-- the Rain Water of a year is at 222,070 k/608 days
rain_water_day : (y : ℕ) → mid_term_day (rain_water y) ≡ 222070 * years_since_origin y / 608
rain_water_day y = omega arith

-- a month has 29 or 30 days
pub month_takes : (k : ℕ) → Takes new_moon_day k 29 30
month_takes k = takes new_moons (omega arith) 29 30 (omega arith) (omega arith) k

-- a full moon is midway between two new moons
pub midway : (k : ℕ) → (full_moon k).0 ≡ (new_moon k).0 + (new_moon (k + 1)).0
midway k = omega arith
