-- What inner functions find, and what is asked of callers, so that every number fits its word. No rule of the calendar.
use Rattle.std.specs.Prelude.{Bool, true, false, ℕ, ◌+◌, ◌-◌, ◌/◌, ◌%◌, ◌<◌, ◌≤◌, ltb, ℤ, pos, nat_abs, ◌+ℤ◌, ◌*ℤ◌, get_or}
use Rattle.numbers.specs.Sign.{plus, minus}
use Rattle.numbers.specs.Rounding.{nearest}
use Rattle.units.specs.declared.AnomalySecond.{AnomalySecond}
use Rattle.senmyo_moon.specs.declared.SignedRow.{SignedRow}
use Rattle.senmyo_moon.specs.declared.HalfSecond.{HalfSecond}
use Rattle.senmyo_moon.specs.declared.RowPlace.{RowPlace}
use Rattle.senmyo_moon.specs.declared.Stretch.{Stretch}
use Rattle.senmyo_moon.specs.declared.Stretch.TheVariants.{WholeDay, GainingIn7, LosingIn7, DayOf14}
use Rattle.senmyo_moon.specs.declared.Stand.{Stand}
use Rattle.senmyo_moon.specs.Moon.{Change, Gain, Loss, GainThenLoss, FirstLoss, MoonRow, rows, no_row, half_seconds, day_half_seconds, half_period, gaining_in7, losing_in7, day_of14, signed, in_period}

-- a half's row of a day, from day 0
abbrev pub row_in : Bool → ℕ → MoonRow
row_in upper day = get_or (rows upper) day no_row

-- a stretch of a row under the sign of a half, and how far along it a moment stands
abbrev pub stand : Bool → ℤ → ℕ → HalfSecond → Stretch → Stand
stand upper change sum over stretch =
    record { row = (signed upper change, signed upper (plus sum)); over = over; stretch = stretch }

-- t into a row's day: row 7 loses from 7465 fen on
unfoldable pub stand_in : Bool → Change → ℕ → HalfSecond → Stand
stand_in upper (Gain gain) sum t = stand upper (plus gain) sum t WholeDay
stand_in upper (Loss loss) sum t = stand upper (minus loss) sum t WholeDay
stand_in upper (GainThenLoss gain loss) sum t =
    elim (ltb t.0 gaining_in7.0) [
      | true ↦ stand upper (plus gain) sum t GainingIn7
      | false ↦ stand upper (minus loss) (sum + gain) (half_seconds (t.0 - gaining_in7.0)) LosingIn7
    ]
stand_in upper (FirstLoss loss) sum t = stand upper (minus loss) sum t DayOf14

-- t into a day of a half
abbrev pub stand_on : Bool → ℕ → HalfSecond → Stand
stand_on upper day t = let w : MoonRow = row_in upper day in stand_in upper w.change w.sum t

-- a half's row as its day starts
abbrev pub first_row : Bool → ℕ → SignedRow
first_row upper day = (stand_on upper day (half_seconds 0)).row

-- .. by its place in both halves, one behind the other
abbrev pub first_row_at : ℕ → SignedRow
first_row_at place = first_row (ltb place 14) (place % 14)

-- how long a stretch is
abbrev pub length_of : Stretch → HalfSecond
length_of WholeDay = day_half_seconds
length_of GainingIn7 = gaining_in7
length_of LosingIn7 = losing_in7
length_of DayOf14 = day_of14

-- sum + change × over/length, rounded
abbrev pub rounded_part : SignedRow → HalfSecond → HalfSecond → ℤ
rounded_part row over length = nearest (row.1 *ℤ pos length.0 +ℤ row.0 *ℤ pos over.0) length.0

-- the correction where a moment stands
abbrev pub rounded_at : Stand → ℤ
rounded_at s = rounded_part s.row s.over (length_of s.stretch)

-- a change and a sum, and how far along how long a stretch, of which that can be worked out
pub record RoundableRow (row : SignedRow) (over length : HalfSecond) : Type 0 where
  pub row_small : nat_abs row.0 + nat_abs row.1 ≤ 5000
  pub over_small : over.0 ≤ day_half_seconds.0
  pub some : 0 < length.0
  pub length_small : length.0 ≤ day_half_seconds.0

-- where a moment stands
abbrev pub place_of : AnomalySecond → RowPlace
place_of at =
    let h : ℕ = (in_period at).0 in
    record {
      upper = ltb h half_period.0;
      day = h % half_period.0 / day_half_seconds.0;
      over = half_seconds (h % half_period.0 % day_half_seconds.0);
    }

-- where in the table a moment stands
abbrev pub stand_at : AnomalySecond → Stand
stand_at at = let p : RowPlace = place_of at in stand_on p.upper p.day p.over
