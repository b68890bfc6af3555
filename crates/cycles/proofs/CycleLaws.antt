-- How many days lie between two of a cycle, and which is the last by the end of a day.
use mathlib.Core.Path.{◌≡◌, sym}
use Prim.Native.Nat.{ℕ, ◌+◌, ◌-◌, ◌*◌, ◌/◌, ◌<◌, ◌≤◌}
use native.Mathlib.Nat.{zero-div, mul-zero, mul-le-mul_left, lt_of_mul-lt-mul_left, div-mul-le_self, lt-div-mul-add, lt-mul-div-succ, le-div_iff_mul-le, div-lt_iff_lt-mul}
use native.Mathlib.Omega.{arith}
use Rattle.numbers.specs.Spans.{Holds, Takes}
use Rattle.numbers.proofs.Spans.{Growing, span_is}
use Rattle.cycles.specs.declared.Cycle.{Cycle}
use Rattle.cycles.specs.Cycles.{cycle_day, last_by, Apart}

-- the last by the end of a day, told by the units up to then
abbrev pub last_told : Cycle → ℕ → ℕ
last_told c d = (c.of_day * (d + 1) - 1) / c.spacing

module _ (c : Cycle) (h : Apart c) where
  -- n spacings of so many days or more
  pub at_least : (n days : ℕ) → days * c.of_day ≤ n * c.spacing → (j : ℕ) → cycle_day c j + days ≤ cycle_day c (j + n)
  at_least n days long j =
      let here = div-mul-le_self (c.spacing * j) c.of_day in
      (le-div_iff_mul-le h.some).1 (omega (arith, here, long))

  -- .. and of so many or less
  pub at_most : (n days : ℕ) → n * c.spacing ≤ days * c.of_day → (j : ℕ) → cycle_day c (j + n) ≤ cycle_day c j + days
  at_most n days short j =
      let here = lt-div-mul-add {a = c.spacing * j} h.some in
      let before : cycle_day c (j + n) < cycle_day c j + days + 1 = (div-lt_iff_lt-mul h.some).1 (omega (arith, here, short)) in
      omega (arith, before)

  -- from one to the next
  pub takes : (a b : ℕ) → a * c.of_day ≤ c.spacing → c.spacing ≤ b * c.of_day → (j : ℕ) → Takes (cycle_day c) j a b
  takes a b long short j = record { at_least = at_least 1 a (omega (arith, long)) j; at_most = at_most 1 b (omega (arith, short)) j }

  -- none falls on the day of the one before
  pub grow : Growing (cycle_day c)
  grow =
      record {
        zeroth = rw (mul-zero, zero-div);
        grows = λ j. omega (arith, at_least 1 1 (omega (arith, h.a_day)) j);
      }

  pub end_some : (d : ℕ) → 1 ≤ c.of_day * (d + 1)
  end_some d = omega (arith, h.some, mul-le-mul_left {m = 1} {n = d + 1} c.of_day (omega arith))

  -- it has come by the end of the day, and the next has not ..
  pub last_holds : (d : ℕ) → Holds (cycle_day c) (last_told c d) d
  last_holds d =
      let some : 0 < c.spacing = omega (arith, h) in
      let end = c.of_day * (d + 1) - 1 in
      let by_end = div-mul-le_self end c.spacing in
      let next_after = lt-mul-div-succ end some in
      let early : cycle_day c (last_told c d) < d + 1 = (div-lt_iff_lt-mul h.some).1 (omega (arith, by_end, end_some d)) in
      let late : d + 1 ≤ cycle_day c (last_told c d + 1) = (le-div_iff_mul-le h.some).1 (omega (arith, next_after, end_some d)) in
      record { from = omega (arith, early); to = omega (arith, late) }

  -- .. so that it is the last by then; and its number is no greater than the day's
  pub last_is : (d : ℕ) → last_told c d ≡ last_by c d
  last_is d = sym (span_is (cycle_day c) grow (last_told c d) d (last_holds d))

  pub last_small : (d : ℕ) → last_told c d ≤ d
  last_small d =
      let end = c.of_day * (d + 1) - 1 in
      let by_end = div-mul-le_self end c.spacing in
      let fewer = mul-le-mul_left (last_told c d) h.a_day in
      let before : last_told c d < d + 1 = lt_of_mul-lt-mul_left c.of_day (omega (arith, by_end, fewer, end_some d)) in
      omega (arith, before)
