-- What crosses to C and Rust: each answer as numbers.
use Rattle.std.specs.Prelude.{Bool, true, false, not, List, [], ◌∷◌, ◌++◌, ℕ, eqb, Float}
use Rattle.answers.specs.Answer.{Answer, given, refused}
use Rattle.senmyo_node.specs.declared.Side.{Side}
use Rattle.senmyo_node.specs.declared.Side.TheVariants.{Yang, Yin}
use Rattle.senmyo_node.specs.Eclipse.{Kind, none, total, partial, Graded}
use Rattle.calendar_eclipses.specs.declared.FullMoon.{FullMoon}
use Rattle.calendar_moons.specs.declared.Moons.{Moons}
use Rattle.calendar_hours.specs.declared.Hour.{Hour}
use Rattle.calendar_hours.specs.declared.Hours.{Hours}
use Rattle.calendar_year.specs.declared.Month.{Month}
use Rattle.calendar_year.specs.declared.Year.{Year}

-- any number but 0 asks for the leap month
abbrev pub asks_leap : ℕ → Bool
asks_leap leap = not (eqb leap 0)

-- a number, or the refusal's number alone
abbrev pub number_in : Answer ℕ → ℕ
number_in (given n) = n
number_in (refused n) = n

-- 1 for yes, 0 for no
abbrev pub flag : Bool → ℕ
flag true = 1
flag false = 0

-- number, leap, length, first day
abbrev pub month_numbers : Month → List ℕ
month_numbers m = m.number ∷ flag m.leap ∷ m.length ∷ m.first_day ∷ []

-- .. for each place
unfoldable pub places_numbers : List Month → List ℕ
places_numbers [] = []
places_numbers (m ∷ ms) = month_numbers m ++ places_numbers ms

-- days, leap number, count
abbrev pub head_numbers : Year → List ℕ
head_numbers y = y.days ∷ y.leap ∷ y.count ∷ []

abbrev pub year_numbers : Year → List ℕ
year_numbers y = head_numbers y ++ places_numbers y.months

-- 0 yang, 1 yin
abbrev pub side_number : Side → ℕ
side_number Yang = 0
side_number Yin = 1

-- 0 none, 1 total, 2 partial
abbrev pub kind_number : Kind → ℕ
kind_number none = 0
kind_number total = 1
kind_number partial = 2

-- day, fen, side, distance
abbrev pub moon_numbers : FullMoon → List ℕ
moon_numbers m = m.day ∷ m.fen.0 ∷ side_number m.side ∷ m.distance.0 ∷ []

-- kind, parts, remainder, strong
abbrev pub grade_numbers : Graded → List ℕ
grade_numbers g = kind_number g.kind ∷ g.parts ∷ g.remainder ∷ flag g.strong ∷ []

abbrev pub eclipse_numbers : FullMoon × Graded → List ℕ
eclipse_numbers e = moon_numbers e.0 ++ grade_numbers e.1

-- day, fen, ke
abbrev pub hour_numbers : Hour → List ℕ
hour_numbers t = t.day ∷ t.fen.0 ∷ t.ke.0 ∷ []

-- length, its ke and fen over; start, middle, end
abbrev pub hours_numbers : Hours → List ℕ
hours_numbers h =
    (h.length.0 ∷ h.ke.0 ∷ h.over.0 ∷ []) ++
    hour_numbers h.start ++
    hour_numbers h.middle ++
    hour_numbers h.end

-- new and full
abbrev pub moons_numbers : Moons → List Float
moons_numbers m = m.new ∷ m.full ∷ []
