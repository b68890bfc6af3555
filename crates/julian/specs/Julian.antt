-- A moment as a 64-bit floating Julian date (01, "Instants for the chart").
use Rattle.std.specs.Prelude.{ℕ, ◌+◌, ◌-◌, ◌*◌, ◌/◌, ◌^◌, ◌≤◌, false, T, Float}
use Rattle.std.specs.Float.{binary64}
use Rattle.std.specs.Float.Ieee.{round}
use Rattle.std.specs.Float.Ieee.Positive.{num, den, positive}

-- the 64-bit floating number nearest to n / d, rounded once
unfoldable pub rounded : ℕ → ℕ → Float
rounded n d = round binary64 false n d

-- day − 1/2 + part of the day, as so many parts, of which a day has an even number (0 before the noon at which Julian dates begin)
abbrev pub numerator : ℕ → ℕ → ℕ → ℕ
numerator day part of_day = day * of_day + part - of_day / 2

-- the same in days: the Julian date
unfoldable pub instant : ℕ → ℕ → ℕ → Float
instant day part of_day = rounded (numerator day part of_day) of_day

-- x is finite and above zero, and no more than 1/2^32 from n / d: with x = num x / den x, both sides are taken 2^32 × d × den x times
pub record Near (n d : ℕ) (x : Float) : Type 0 where
  pub above_zero : T (positive x)
  pub at_most : 2 ^ 32 * (num x * d) ≤ 2 ^ 32 * (n * den x) + d * den x
  pub at_least : 2 ^ 32 * (n * den x) ≤ 2 ^ 32 * (num x * d) + d * den x
