-- How the Moon's signed correction changes in a day (02, request 2).
use Rattle.std.specs.Prelude.{Bool, true, false, ltb, ℤ}
use Rattle.numbers.specs.Sign.{plus, minus}
use Rattle.units.specs.declared.AnomalySecond.{AnomalySecond}
use Rattle.senmyo_moon.specs.declared.HalfSecond.{HalfSecond}
use Rattle.senmyo_moon.specs.Moon.{Change, Gain, Loss, GainThenLoss, FirstLoss, MoonRow, gaining_in7, signed, in_table}

-- what a row gains or loses in its day, t into it; in row 7 that of the side of 7,465 on which t stands: the gain before, the loss from there
unfoldable pub daily_change : Change → HalfSecond → ℤ
daily_change (Gain gain) t = plus gain
daily_change (Loss loss) t = minus loss
daily_change (GainThenLoss gain loss) t = elim (ltb t.0 gaining_in7.0) [ true ↦ plus gain | false ↦ minus loss ]
daily_change (FirstLoss loss) t = minus loss

-- .. in the lower rows with the reverse sign
unfoldable pub change_in_row : Bool → MoonRow → HalfSecond → ℤ
change_in_row upper w t = signed upper (daily_change w.change t)

-- the daily change of the Moon's signed correction at a moment, in fen
unfoldable pub change_of : AnomalySecond → ℤ
change_of at = in_table change_in_row at
