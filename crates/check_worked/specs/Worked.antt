-- The eight cases of 01, "Worked figures", as one list of claims about the definitions, in its order and with its numbers.
use Rattle.std.specs.Prelude.{◌≡◌, true, false, List, [], ◌∷◌, map, ℕ, ◌+◌, ◌-◌, ℤ, get_or}
use Rattle.answers.specs.Answer.{given, then}
use Rattle.numbers.specs.Sign.{plus, minus}
use Rattle.units.specs.declared.Fen.{Fen}
use Rattle.units.specs.Units.{fen, fen_to_byo, byo_to_anomaly_seconds, whole_days, fen_of_day}
use Rattle.senmyo_means.specs.Means.{solstice, mean_new_moon}
use Rattle.senmyo_sun.specs.Sun.{sun_of}
use Rattle.senmyo_moon.specs.Moon.{moon_of}
use Rattle.senmyo_node.specs.declared.Side.{Side}
use Rattle.senmyo_node.specs.declared.Side.TheVariants.{Yin}
use Rattle.senmyo_node.specs.Eclipse.{partial, Graded}
use Rattle.senmyo.specs.Phases.{new_moon, new_moon_day}
use Rattle.months_rules.specs.Rules.{senmyo, day_number}
use Rattle.calendar_month.specs.Asked.{regular_month}
use Rattle.calendar_eclipses.specs.declared.FullMoon.{FullMoon}
use Rattle.calendar_eclipses.specs.Eclipses.{eclipse_of}
use Rattle.calendar_date.specs.Dates.{day_of, cycle}
use Rattle.calendar_year.specs.declared.Year.{Year}
use Rattle.calendar_year.specs.Years.{no_month, year_of}

-- every claim of a list holds
abbrev pub Every : List (Type 0) → Type 0
Every [] = Unit {0}
Every (claim ∷ claims) = claim × Every claims

-- month m of Senmyo's year y: its mean new moon, and what the corrections there are
abbrev mean : ℕ → ℕ → ℕ
mean y m = (mean_new_moon (regular_month senmyo y m)).0

abbrev sun : ℕ → ℕ → ℤ
sun y m = sun_of (fen_to_byo (mean_new_moon (regular_month senmyo y m)))

abbrev moon : ℕ → ℕ → ℤ
moon y m = moon_of (byo_to_anomaly_seconds (fen_to_byo (mean_new_moon (regular_month senmyo y m))))

-- .. and its true new moon: the fen of the day, and by how many days it moves
abbrev advance : ℕ → ℕ → ℕ × ℕ
advance y m =
    let k : ℕ = regular_month senmyo y m in
    ((fen_of_day (new_moon k)).0, new_moon_day k - whole_days (new_moon k))

abbrev pub twelve : List ℕ
twelve = 1 ∷ 2 ∷ 3 ∷ 4 ∷ 5 ∷ 6 ∷ 7 ∷ 8 ∷ 9 ∷ 10 ∷ 11 ∷ 12 ∷ []

-- 1522: the solstice before it, at 90 fen of a day of cycle 0; the mean new moon of the month 11 before it 121,258 fen earlier
abbrev pub Solstice : Type 0
Solstice = (fen_of_day (solstice 1522) ≡ fen 90) × ((cycle (day_number senmyo (whole_days (solstice 1522))) ≡ 0) × (mean 1521 11 + 121258 ≡ (solstice 1522).0))

-- the Sun, months 1 to 12 of 1522
abbrev pub Sun : Type 0
Sun = map (sun 1522) twelve ≡ plus 1136 ∷ plus 1483 ∷ plus 1484 ∷ plus 1154 ∷ plus 549 ∷ minus 281 ∷ minus 974 ∷ minus 1406 ∷ minus 1522 ∷ minus 1295 ∷ minus 733 ∷ plus 139 ∷ []

-- the Moon, the same months
abbrev pub Moon : Type 0
Moon = map (moon 1522) twelve ≡ plus 2835 ∷ plus 3206 ∷ plus 3013 ∷ plus 2278 ∷ plus 1018 ∷ minus 583 ∷ minus 1962 ∷ minus 2833 ∷ minus 3180 ∷ minus 2970 ∷ minus 2223 ∷ minus 973 ∷ []

-- month 2 of 1522 at 6092 fen stays; month 5 at 7941 moves
abbrev pub Advance : Type 0
Advance = (advance 1522 2 ≡ (6092, 0)) × (advance 1522 5 ≡ (7941, 1))

-- 1413, month 1: Sun 1210, Moon 84
abbrev pub Month1413 : Type 0
Month1413 = (sun 1413 1 ≡ plus 1210) × (moon 1413 1 ≡ plus 84)

-- 1522 month 2: full moon at 6215 fen, 2241 from the node, yin, 14 parts, remainder 412, strong
abbrev told : FullMoon × Graded → Fen × (Fen × (Side × Graded))
told (moon, grade) = (moon.fen, (moon.distance, (moon.side, grade)))

abbrev pub Eclipse : Type 0
Eclipse =
    then (eclipse_of 1 1522 2 false) (λ e. given (told e)) ≡
    given (fen 6215, (fen 2241, (Yin, record { kind = partial; parts = 14; remainder = 412; strong = true })))

-- 643: first day 1955939, 383 days, 13 months, leap 7
abbrev summary : Year → ℕ × (ℕ × (ℕ × ℕ))
summary y = ((get_or y.months 0 no_month).first_day, (y.days, (y.count, y.leap)))

abbrev pub Year643 : Type 0
Year643 = then (year_of 2 643) (λ y. given (summary y)) ≡ given (1955939, (383, (13, 7)))

-- 643 month 5 day 16 is 1956072, cycle 1
abbrev pub Day643 : Type 0
Day643 = (day_of 2 643 5 false 16 ≡ given 1956072) × (cycle 1956072 ≡ 1)

abbrev pub eight : List (Type 0)
eight = Solstice ∷ Sun ∷ Moon ∷ Advance ∷ Month1413 ∷ Eclipse ∷ Year643 ∷ Day643 ∷ []
