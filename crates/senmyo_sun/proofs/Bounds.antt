-- The Sun's correction lies from −1526 to 1526 at every moment: between two whole days it runs along a line, and at whole days it is tested.
use mathlib.Core.Bool.{Bool}
use Prim.Native.Nat.{ℕ, ◌+◌, ◌*◌, ◌/◌, ◌<◌}
use native.Mathlib.Nat.{mod-eq_of_lt, div-eq_of_lt}
use native.Mathlib.Omega.{arith}
use lib.Dec.{T}
use lib.IntN.{pos, ◌*ℤ◌}
use lib.ListN.{get_or}
use lib.Signed.{◌≤ℤ◌}
use Rattle.numbers.specs.Sign.{plus, minus}
use Rattle.numbers.specs.Rounding.{nearest}
use Rattle.numbers.specs.Between.{Between}
use Rattle.numbers.proofs.Rounding.{ends, between_ends, nearest_pos}
use Rattle.numbers.proofs.Tests.{every, at_each, at_each_row}
use Rattle.units.specs.declared.Byo.{Byo}
use Rattle.units.specs.Units.{day_byo, fen_to_byo}
use Rattle.senmyo_means.specs.Means.{solar_year}
use Rattle.senmyo_sun.specs.declared.Term.{Term}
use Rattle.senmyo_sun.specs.declared.TermPlace.{TermPlace}
use Rattle.senmyo_sun.specs.Sun.{Row, solstice_row, later_rows, sun_rows, no_row, after_days, on_day, sun_place, sun_share, sun_of}
use Rattle.senmyo_sun.proofs.Terms.{Fair, fair, place_here, Found, found}

-- the correction at the start and at the end of the day after n whole days in a term
day_test : Term → ℕ → Bool
day_test t n = ends (minus 1526) (plus 1526) (after_days t n *ℤ pos day_byo) (on_day t n) day_byo (10000 * day_byo)

-- each day that a printed row's term has begun
abbrev days_test : Row → Bool
days_test r = every (day_test r.term) 0 (r.span.0 / day_byo + 1)

days_tested : (i : ℕ) → i < 24 → T (days_test (get_or sun_rows i no_row))
unfolding every day_test after_days on_day nearest solstice_row later_rows
days_tested i h = at_each_row days_test no_row sun_rows tt i h

record Tested (r : Row) : Type 0 where
  row : Fair r
  days : T (days_test r)

in_day : (p : TermPlace) → Found Tested p → Between (minus 1526) (nearest (sun_share p) (10000 * day_byo)) (plus 1526)
unfolding day_test sun_share
in_day p f =
    let t : Term = f.row.term in
    let n : ℕ = p.into.0 / day_byo in
    let row = f.holds.row in
    let tested = at_each (day_test t) 0 (f.row.span.0 / day_byo + 1) f.holds.days n (omega arith) (omega arith) in
    rw f.its_term (between_ends _ _ (after_days t n *ℤ pos day_byo) (on_day t n) day_byo _ (omega arith) tested _ (omega arith))

pub sun_bounds : (at : Byo) → Between (minus 1526) (sun_of at) (plus 1526)
unfolding sun_of
sun_bounds at =
    in_day (sun_place at) (found Tested (λ i h. record { row = fair i h; days = days_tested i h }) at)

-- on the first day of the count it is not below zero
pub sun_first_day : (at : Byo) → at.0 < day_byo → pos 0 ≤ℤ sun_of at
unfolding sun_of sun_place sun_share after_days on_day solstice_row
sun_first_day at h =
    let here = place_here solstice_row later_rows at.0 (omega arith) in
    rw (mod-eq_of_lt {n = at.0} {m = (fen_to_byo solar_year).0} (omega arith), here, div-eq_of_lt h, mod-eq_of_lt h) (nearest_pos _ _)
