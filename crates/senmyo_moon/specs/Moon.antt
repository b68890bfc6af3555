-- The Moon's correction (01, "Moon's correction"; 003, Table 4).
use Rattle.std.specs.Prelude.{Bool, true, false, List, [], ◌∷◌, ℕ, ◌+◌, ◌-◌, ◌*◌, ◌/◌, ◌%◌, ltb, leb, ℤ, pos, neg_ℤ, ◌+ℤ◌, ◌*ℤ◌, get_or}
use Rattle.numbers.specs.Sign.{plus, minus}
use Rattle.numbers.specs.Rounding.{nearest}
use Rattle.units.specs.declared.Fen.{Fen}
use Rattle.units.specs.declared.AnomalySecond.{AnomalySecond}
use Rattle.units.specs.Units.{fen, anomaly_seconds, day_fen}
use Rattle.senmyo_moon.specs.declared.HalfSecond.{HalfSecond}

-- how the correction changes in a day, in fen, as the page says it
pub data Change : Type 0 where
  Gain : ℕ → Change
  Loss : ℕ → Change
  -- a gain first, and a loss at the end
  GainThenLoss : ℕ → ℕ → Change
  -- a loss in what there is of the day
  FirstLoss : ℕ → Change

-- a day of the table: its change, and the sum before it
pub record MoonRow : Type 0 where
  pub change : Change
  pub sum : ℕ

-- a row as printed: gain or loss, and the sum
abbrev pub row : Change → ℕ → MoonRow
row change sum = record { change = change; sum = sum }

-- Table 4, upper half
unfoldable pub upper_rows : List MoonRow
upper_rows =
    row (Gain 830) 0 ∷
    row (Gain 726) 830 ∷
    row (Gain 606) 1556 ∷
    row (Gain 471) 2162 ∷
    row (Gain 337) 2633 ∷
    row (Gain 202) 2970 ∷
    row (GainThenLoss 53 7) 3172 ∷
    row (Loss 82) 3218 ∷
    row (Loss 224) 3136 ∷
    row (Loss 366) 2912 ∷
    row (Loss 509) 2546 ∷
    row (Loss 643) 2037 ∷
    row (Loss 748) 1394 ∷
    row (FirstLoss 646) 646 ∷ []

-- Table 4, lower half
unfoldable pub lower_rows : List MoonRow
lower_rows =
    row (Gain 830) 0 ∷
    row (Gain 726) 830 ∷
    row (Gain 598) 1556 ∷
    row (Gain 464) 2154 ∷
    row (Gain 329) 2618 ∷
    row (Gain 195) 2947 ∷
    row (GainThenLoss 53 7) 3142 ∷
    row (Loss 82) 3188 ∷
    row (Loss 225) 3106 ∷
    row (Loss 366) 2881 ∷
    row (Loss 501) 2515 ∷
    row (Loss 628) 2014 ∷
    row (Loss 740) 1386 ∷
    row (FirstLoss 646) 646 ∷ []

abbrev pub rows : Bool → List MoonRow
rows true = upper_rows
rows false = lower_rows

-- what stands for a row that there is not
abbrev pub no_row : MoonRow
no_row = row (Gain 0) 0

-- half anomaly seconds, a unit for the half period's three places: 1/200 fen
abbrev pub half_seconds : ℕ → HalfSecond
half_seconds n = record { 0 = n }

-- a fen is 200
abbrev pub fen_to_half_seconds : Fen → HalfSecond
fen_to_half_seconds f = half_seconds (f.0 * 200)

-- an anomaly second is 2
abbrev pub seconds_to_half_seconds : AnomalySecond → HalfSecond
seconds_to_half_seconds s = half_seconds (s.0 * 2)

abbrev pub day_half_seconds : HalfSecond
day_half_seconds = fen_to_half_seconds (fen day_fen)

-- the period, 231,458.19 fen
abbrev pub period : AnomalySecond
period = anomaly_seconds 231458_19

-- its half, 115,729.095 fen
abbrev pub half_period : HalfSecond
half_period = half_seconds ((seconds_to_half_seconds period).0 / 2)

-- so many fen over a divisor, before they are rounded
pub record Fraction : Type 0 where
  pub numerator : ℤ
  pub divisor : ℕ

-- sum + change × t/length
abbrev pub sum_after : ℕ → ℤ → HalfSecond → HalfSecond → Fraction
sum_after sum change t length = record { numerator = pos (sum * length.0) +ℤ change *ℤ pos t.0; divisor = length.0 }

-- row 7 gains up to 7465 fen, and then loses; in row 14, 6529 stands for 8400
abbrev pub gaining_in7 : HalfSecond
gaining_in7 = fen_to_half_seconds (fen 7465)

abbrev pub losing_in7 : HalfSecond
losing_in7 = fen_to_half_seconds (fen 935)

abbrev pub day_of14 : HalfSecond
day_of14 = fen_to_half_seconds (fen 6529)

-- t into a row's day: gain positive, loss negative
unfoldable pub share_of : Change → ℕ → HalfSecond → Fraction
share_of (Gain gain) sum t = sum_after sum (plus gain) t day_half_seconds
share_of (Loss loss) sum t = sum_after sum (minus loss) t day_half_seconds
share_of (GainThenLoss gain loss) sum t =
    elim (leb t.0 gaining_in7.0) [
      | true ↦ sum_after sum (plus gain) t gaining_in7
      | false ↦ sum_after (sum + gain) (minus loss) (half_seconds (t.0 - gaining_in7.0)) losing_in7
    ]
share_of (FirstLoss loss) sum t = sum_after sum (minus loss) t day_of14

-- the upper half with plus, the lower with minus
abbrev pub signed : Bool → ℤ → ℤ
signed true z = z
signed false z = neg_ℤ z

-- rounded once, after the sign
unfoldable pub in_row : Bool → MoonRow → HalfSecond → ℤ
in_row upper w t =
    let share : Fraction = share_of w.change w.sum t in
    nearest (signed upper share.numerator) share.divisor

-- what is told of a row and of t into its day: with d whole days and t over into a half, of row d + 1
unfoldable pub half_of : (Bool → MoonRow → HalfSecond → ℤ) → Bool → HalfSecond → ℤ
half_of told upper h = told upper (get_or (rows upper) (h.0 / day_half_seconds.0) no_row) (half_seconds (h.0 % day_half_seconds.0))

-- a moment modulo the period
abbrev pub in_period : AnomalySecond → HalfSecond
in_period at = seconds_to_half_seconds (anomaly_seconds (at.0 % period.0))

-- .. at a moment counted from the start of the count: the first half of the period by the upper rows, the second, less that half, by the lower
unfoldable pub in_table : (Bool → MoonRow → HalfSecond → ℤ) → AnomalySecond → ℤ
in_table told at =
    let h : HalfSecond = in_period at in
    elim (ltb h.0 half_period.0) [ true ↦ half_of told true h | false ↦ half_of told false (half_seconds (h.0 - half_period.0)) ]

-- the Moon's correction at a moment, in fen
unfoldable pub moon_of : AnomalySecond → ℤ
moon_of at = in_table in_row at
