-- What inner functions find, and what they ask of their callers, so that every number fits its word. No rule of the calendar.
use Rattle.std.specs.Prelude.{true, false, ℕ, Option, Some, None, ◌/◌, ◌<◌, ◌≤◌, ◌^◌}
use Rattle.units.specs.declared.Fen.{Fen}
use Rattle.units.specs.Units.{day_fen}
use Rattle.senmyo_node.specs.Eclipse.{Graded}
use Rattle.senmyo_hours.specs.Hours.{is_eclipse, whole_parts}

-- the parts of an eclipse, if there is one
unfoldable pub parts_of : Graded → Option ℕ
parts_of g = elim (is_eclipse g) [ true ↦ Some (whole_parts g) | false ↦ None ]

-- a middle that stands far enough from the start of the count for its eclipse's length
pub record Timed (middle length : Fen) : Type 0 where
  pub from : length.0 / 2 ≤ middle.0
  pub length_small : length.0 ≤ day_fen
  pub middle_small : middle.0 < 2 ^ 63
