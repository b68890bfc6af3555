-- Lunar eclipses by month (01, "Lunar eclipse, Senmyo only" and "Refusal numbers").
use Rattle.std.specs.Prelude.{Bool, List, [], ◌∷◌, ◌++◌, ℕ, eqb}
use Rattle.answers.specs.Answer.{Answer}
use Rattle.answers.specs.Conditions.{asking}
use Rattle.units.specs.Units.{whole_days, fen_of_day}
use Rattle.senmyo_node.specs.Eclipse.{Graded, grade_of}
use Rattle.senmyo.specs.FullMoons.{full_moon_fen, full_moon_node}
use Rattle.months_rules.specs.Rules.{senmyo, day_number}
use Rattle.calendar_range.specs.Range.{rules_for, is_covered, calendar_conditions}
use Rattle.calendar_month.specs.Asked.{month_named, has_month}
use Rattle.calendar_eclipses.specs.declared.FullMoon.{FullMoon}

-- the full moon of month k: its day and fen, never put back a day, and the side and distance from the node
unfoldable pub full_moon_at : ℕ → FullMoon
full_moon_at k =
    record {
      day = day_number senmyo (whole_days (full_moon_fen k));
      fen = fen_of_day (full_moon_fen k);
      side = (full_moon_node k).side;
      distance = (full_moon_node k).distance;
    }

-- .. and then none, total, or partial
abbrev pub eclipse_in : ℕ → FullMoon × Graded
eclipse_in k = (full_moon_at k, grade_of (full_moon_at k).distance)

-- the calendar is Senmyo; else refusal 13: "eclipse asked of Genka"
abbrev pub is_senmyo : ℕ → Bool
is_senmyo c = eqb c 1

-- what is asked of a month whose eclipse is wanted
abbrev pub eclipse_conditions : ℕ → ℕ → ℕ → Bool → List (Bool × ℕ)
eclipse_conditions c y m leap =
    calendar_conditions c ++
    (is_senmyo c, 13) ∷
    (is_covered (rules_for c) y, 2) ∷
    (has_month (rules_for c) y m leap, 3) ∷ []

-- the month, by the number of its new moon
unfoldable pub eclipse_asked : ℕ → ℕ → ℕ → Bool → Answer ℕ
eclipse_asked c y m leap = asking (eclipse_conditions c y m leap) (month_named (rules_for c) y m leap)

-- .. its full moon, and how far that is eclipsed
unfoldable pub eclipse_of : ℕ → ℕ → ℕ → Bool → Answer (FullMoon × Graded)
eclipse_of c y m leap = asking (eclipse_conditions c y m leap) (eclipse_in (month_named (rules_for c) y m leap))
