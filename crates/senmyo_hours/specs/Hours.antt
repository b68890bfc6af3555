-- Hours of a lunar eclipse (02, request 2; 000, section 3, without the extra half ke for deep eclipses).
use Rattle.std.specs.Prelude.{Bool, true, false, Option, Some, None, ℕ, ◌+◌, ◌-◌, ◌*◌, ◌/◌, ◌≤◌, ℤ, pos, ◌+ℤ◌, ◌*ℤ◌}
use Rattle.numbers.specs.Sign.{whole}
use Rattle.numbers.specs.Rounding.{nearest}
use Rattle.units.specs.declared.Fen.{Fen}
use Rattle.units.specs.Units.{fen, byo_to_anomaly_seconds, day_fen}
use Rattle.senmyo_means.specs.Means.{mean_full_moon}
use Rattle.senmyo_moon.specs.Daily.{change_of}
use Rattle.senmyo_node.specs.Eclipse.{none, total, partial, Graded, grade_of}
use Rattle.senmyo.specs.FullMoons.{full_moon_fen, full_moon_node}
use Rattle.senmyo_hours.specs.declared.Times.{Times}

-- there is an eclipse, if only one of 0 parts, weak
abbrev pub is_eclipse : Graded → Bool
is_eclipse g = elim g.kind [ none ↦ false | total ↦ true | partial ↦ true ]

-- the parts, rounded to a whole number by remainder: strong goes up
abbrev pub whole_parts : Graded → ℕ
whole_parts g = elim g.strong [ true ↦ g.parts + 1 | false ↦ g.parts ]

-- 112 fen a part
abbrev pub mean_length : ℕ → ℕ
mean_length parts = 112 * parts

-- .. and to that its product with the daily change of the Moon's signed correction over 8,400, rounded (`whole` cuts nothing off: `length_exact`)
unfoldable pub length_of : ℕ → ℤ → Fen
length_of parts change =
    let mean : ℕ = mean_length parts in
    fen (whole (pos mean +ℤ nearest (change *ℤ pos mean) day_fen))

-- the start is the middle less half the length, an odd fen dropped from the half (`half_back`); the end is the start plus the length
unfoldable pub times_from : Fen → Fen → Times
times_from middle length =
    let start : Fen = fen (middle.0 - length.0 / 2) in
    record { length = length; start = start; middle = middle; end = fen (start.0 + length.0) }

-- ---- the eclipse of month k

abbrev pub grade_at : ℕ → Graded
grade_at k = grade_of (full_moon_node k).distance

-- the row of the full moon is that in which the mean full moon stands, the moment at which both corrections are taken
abbrev pub change_at : ℕ → ℤ
change_at k = change_of (byo_to_anomaly_seconds (mean_full_moon k))

-- the middle is the full moon
unfoldable pub times_at : ℕ → Times
times_at k = times_from (full_moon_fen k) (length_of (whole_parts (grade_at k)) (change_at k))

-- .. if there is an eclipse
unfoldable pub eclipse_at : ℕ → Option Times
eclipse_at k = elim (is_eclipse (grade_at k)) [ true ↦ Some (times_at k) | false ↦ None ]

-- ---- what is proved of every eclipse (HourLaws)

-- start ≤ middle ≤ end, and the end is at most a day after the start
pub record InOrder (t : Times) : Type 0 where
  pub start_first : t.start.0 ≤ t.middle.0
  pub end_last : t.middle.0 ≤ t.end.0
  pub within_day : t.end.0 ≤ t.start.0 + day_fen
