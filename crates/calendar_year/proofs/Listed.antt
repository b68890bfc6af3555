-- A year's months are listed one after the other, each at its place.
use mathlib.Core.Path.{◌≡◌}
use Prim.Native.Nat.{ℕ, ◌+◌, ◌<◌}
use native.Mathlib.Numerals.{add-one}
use Rattle.numbers.proofs.Places.{placed}
use Rattle.months_rules.specs.Rules.{Rules}
use Rattle.calendar_year.specs.Years.{listed, no_month, leap_number}
use Rattle.calendar_year.specs.Room.{listed_behind, listing}

-- one more month goes to the next place
pub next_listed : (r : Rules) (days k i : ℕ) → i < 13 → listed_behind (listed r (k + i)) (listing r days k i) ≡ listing r days k (i + 1)
unfolding listed_behind leap_number
next_listed r days k i h = rw (placed no_month (listed r) k i 13 h, add-one)
