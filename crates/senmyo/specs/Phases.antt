-- True new moons of Senmyo, and the corrections that they and full moons have (01, "Months and leap").
use Rattle.std.specs.Prelude.{true, false, ℕ, ◌+◌, leb, ℤ, pos, ◌+ℤ◌}
use Rattle.numbers.specs.Sign.{whole}
use Rattle.units.specs.declared.Fen.{Fen}
use Rattle.units.specs.declared.Byo.{Byo}
use Rattle.units.specs.Units.{fen, fen_to_byo, byo_to_anomaly_seconds, whole_days, fen_of_day}
use Rattle.senmyo_means.specs.Means.{mean_new_moon}
use Rattle.senmyo_sun.specs.Sun.{sun_of}
use Rattle.senmyo_moon.specs.Moon.{moon_of}

-- the Moon's correction at a mean moment, in fen
abbrev pub moon_at : Byo → ℤ
moon_at mean = moon_of (byo_to_anomaly_seconds mean)

-- Sun + Moon; both are taken at that same moment
unfoldable pub corrections : Byo → ℤ
corrections mean = sun_of mean +ℤ moon_at mean

-- the true new moon k: mean + Sun + Moon (`whole` cuts nothing off: `new_moon_exact`)
unfoldable pub new_moon : ℕ → Fen
new_moon k = fen (whole (pos (mean_new_moon k).0 +ℤ corrections (fen_to_byo (mean_new_moon k))))

-- the day of a new moon is advanced by one if its fen of the day is 6,300 or more
unfoldable pub advanced_day : Fen → ℕ
advanced_day moment = elim (leb 6300 (fen_of_day moment).0) [ true ↦ whole_days moment + 1 | false ↦ whole_days moment ]

-- .. in whole days from the start of the count
abbrev pub new_moon_day : ℕ → ℕ
new_moon_day k = advanced_day (new_moon k)
