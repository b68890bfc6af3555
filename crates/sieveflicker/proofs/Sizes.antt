-- How many numbers an answer has, and that they fit their places.
use mathlib.Core.Path.{◌≡◌}
use mathlib.Core.Bool.{Bool}
use Prim.Native.Nat.{ℕ}
use native.Mathlib.Omega.{arith}
use lib.ListN.{length}
use Rattle.answers.specs.Answer.{given}
use Rattle.senmyo_node.specs.Eclipse.{Graded}
use Rattle.calendar_eclipses.specs.declared.FullMoon.{FullMoon}
use Rattle.calendar_eclipses.specs.Eclipses.{eclipse_of}
use Rattle.calendar_eclipses.proofs.Refusals.{moon_bounded}
use Rattle.calendar_year.specs.declared.Year.{Year}
use Rattle.calendar_year.specs.Years.{year_of}
use Rattle.calendar_year.proofs.Refusals.{thirteen_places}
use Rattle.sieveflicker_numbers.specs.Numbers.{year_numbers}
use Rattle.sieveflicker_numbers.specs.Room.{FitsPlaces}
use Rattle.sieveflicker_numbers.proofs.Memory.{places_length}

-- a year's numbers
pub year_size : (c y : ℕ) (x : Year) → year_of c y ≡ given x → length (year_numbers x) ≡ 55
year_size c y x e = omega (arith, places_length x.months, thirteen_places c y x e)

-- a full moon's fen and distance
pub moon_fits : (c y m : ℕ) (leap : Bool) (e : FullMoon × Graded) → eclipse_of c y m leap ≡ given e → FitsPlaces e.0
moon_fits c y m leap e h =
    let n = moon_bounded c y m leap e h in
    record { fen_small = omega (arith, n.fen_below); distance_small = omega (arith, n.distance_below) }
