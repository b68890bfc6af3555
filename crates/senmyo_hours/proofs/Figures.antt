-- The definitions at the request's example, 1522 month 2, which new moon 87,454,579 opens, and where a number is odd or rounded up.
use mathlib.Core.Path.{◌≡◌, refl}
use Rattle.numbers.specs.Rounding.{nearest}
use Rattle.numbers.specs.Sign.{plus}
use Rattle.units.specs.Units.{fen}
use Rattle.senmyo_moon.specs.Moon.{upper_rows, lower_rows, half_of, in_table}
use Rattle.senmyo_moon.specs.Daily.{daily_change, change_in_row, change_of}
use Rattle.senmyo_node.specs.Eclipse.{grade_of}
use Rattle.senmyo_hours.specs.Hours.{whole_parts, length_of, times_from, change_at}

-- the mean full moon stands in lower row 8
change_1522 : change_at 87454579 ≡ plus 82
unfolding change_of change_in_row daily_change in_table half_of upper_rows lower_rows
change_1522 = refl

-- its distance gives 14 parts, strong, which count 15; at 252 of a part it is weak, and none is added
parts_1522 : (whole_parts (grade_of (fen 2241)) ≡ 15) × (whole_parts (grade_of (fen 8979)) ≡ 1)
unfolding grade_of
parts_1522 = (refl, refl)

-- 15 parts with that change
length_1522 : length_of 15 (plus 82) ≡ fen 1696
unfolding length_of nearest
length_1522 = refl

-- 4 parts of 1636 month 7: what is added is 2 fen and more than a half
length_1636 : length_of 4 (plus 53) ≡ fen 451
unfolding length_of nearest
length_1636 = refl

times_1522 : times_from (fen 6215) (fen 1696) ≡ record { length = fen 1696; start = fen 5367; middle = fen 6215; end = fen 7063 }
unfolding times_from
times_1522 = refl

-- an odd fen is dropped from the half
odd_length : times_from (fen 6215) (fen 1697) ≡ record { length = fen 1697; start = fen 5367; middle = fen 6215; end = fen 7064 }
unfolding times_from
odd_length = refl
