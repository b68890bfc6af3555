-- The change in a day around 7,465 fen of row 7, and in row 14 (02, request 2).
use mathlib.Core.Path.{◌≡◌, refl}
use Rattle.numbers.specs.Sign.{plus, minus}
use Rattle.units.specs.Units.{anomaly_seconds}
use Rattle.senmyo_moon.specs.Moon.{upper_rows, lower_rows, half_of, in_table}
use Rattle.senmyo_moon.specs.Daily.{daily_change, change_in_row, change_of}

-- 57,865 fen into the period, 7,465 into upper row 7: +53 before and −7 from there
upper_row_7 : (change_of (anomaly_seconds 57864_99) ≡ plus 53) × (change_of (anomaly_seconds 57865_00) ≡ minus 7)
unfolding change_of change_in_row daily_change in_table half_of upper_rows lower_rows
upper_row_7 = (refl, refl)

upper_row_14 : change_of (anomaly_seconds 109200_00) ≡ minus 646
unfolding change_of change_in_row daily_change in_table half_of upper_rows lower_rows
upper_row_14 = refl

-- 173,594.095 fen into the period, 7,465 into lower row 7, which is no whole anomaly second: the reverse signs
lower_row_7 : (change_of (anomaly_seconds 173594_09) ≡ minus 53) × (change_of (anomaly_seconds 173594_10) ≡ plus 7)
unfolding change_of change_in_row daily_change in_table half_of upper_rows lower_rows
lower_row_7 = (refl, refl)

lower_row_14 : change_of (anomaly_seconds 224929_10) ≡ plus 646
unfolding change_of change_in_row daily_change in_table half_of upper_rows lower_rows
lower_row_14 = refl
