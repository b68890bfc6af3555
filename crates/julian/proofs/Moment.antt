-- The numerator of a moment lies from 1 to 2^22 days, so that its Julian date is near.
use Prim.Native.Nat.{ℕ, ◌+◌, ◌*◌, ◌^◌, ◌≤◌}
use native.Mathlib.Nat.{mul-le-mul_right}
use native.Mathlib.Omega.{arith}
use Rattle.julian.specs.Julian.{numerator, instant, Near}
use Rattle.julian.specs.Room.{Datable}
use Rattle.julian.proofs.Nearness.{near}

-- the parts of the days gone
pub days_gone : (day part of_day : ℕ) → Datable day part of_day → (2 * of_day ≤ day * of_day) × (day * of_day + of_day ≤ 2 ^ 22 * of_day)
days_gone day part of_day h = omega (arith, mul-le-mul_right of_day h.from, mul-le-mul_right of_day h.to)

-- a Julian date is near the fraction it stands for
pub instant_near : (day part of_day : ℕ) → Datable day part of_day → Near (numerator day part of_day) of_day (instant day part of_day)
unfolding instant
instant_near day part of_day h =
    let days = days_gone day part of_day h in
    near (numerator day part of_day) of_day (omega arith) (omega arith) (omega arith)
