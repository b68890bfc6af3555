-- What inner functions find, and what is asked of callers, so that every number fits its word. No rule of the calendar.
use Rattle.std.specs.Prelude.{ℕ, ◌<◌, ◌^◌, ℤ, pos, negsuc, nat_abs}

-- n, or −1 − n if z is below zero
abbrev pub on_side_of : ℤ → ℕ → ℤ
on_side_of (pos m) n = pos n
on_side_of (negsuc m) n = negsuc n

-- a quotient that can be rounded in words of 64 bits
pub record Roundable (z : ℤ) (d : ℕ) : Type 0 where
  pub some : 0 < d
  pub divisor_small : d < 2 ^ 61
  pub numerator_small : nat_abs z < 2 ^ 61
