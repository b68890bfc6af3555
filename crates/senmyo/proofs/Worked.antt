-- What can be computed of a mean new moon. Whoever unfolds one of these unfolds all that it is made of.
use Prim.Native.Nat.{ℕ}
use lib.IntN.{ℤ}
use Rattle.numbers.specs.Rounding.{nearest}
use Rattle.units.specs.Units.{fen_to_byo, byo_to_anomaly_seconds}
use Rattle.senmyo_means.specs.Means.{mean_new_moon}
use Rattle.senmyo_sun.specs.Sun.{solstice_row, later_rows, place_in, sun_place, after_days, on_day, sun_share, sun_of}
use Rattle.senmyo_moon.specs.Moon.{upper_rows, lower_rows, share_of, in_row, half_of, in_table, moon_of}
use Rattle.senmyo.specs.Phases.{corrections, new_moon, advanced_day, new_moon_day}

-- both corrections at mean new moon k
unfoldable pub sun_at : ℕ → ℤ
unfolding sun_of sun_share after_days on_day sun_place place_in solstice_row later_rows nearest
sun_at k = sun_of (fen_to_byo (mean_new_moon k))

unfoldable pub moon_at : ℕ → ℤ
unfolding moon_of in_table half_of in_row share_of upper_rows lower_rows nearest
moon_at k = moon_of (byo_to_anomaly_seconds (fen_to_byo (mean_new_moon k)))

-- the day of true new moon k
unfoldable pub day_at : ℕ → ℕ
unfolding sun_at moon_at corrections new_moon advanced_day
day_at k = new_moon_day k
