-- The definitions give all eight worked cases.
use mathlib.Core.Path.{◌≡◌, refl}
use mathlib.Core.List.{map}
use Prim.Native.Nat.{ℕ, ◌+◌, ◌-◌}
use lib.Dec.{T}
use Rattle.units.specs.Units.{fen_to_byo, byo_to_anomaly_seconds}
use Rattle.senmyo_means.specs.Means.{mean_new_moon}
use Rattle.senmyo_sun.specs.Sun.{sun_of}
use Rattle.senmyo_moon.specs.Moon.{moon_of}
use Rattle.senmyo.proofs.Worked.{sun_at, moon_at, day_at}
use Rattle.months_rules.specs.Rules.{mid, senmyo}
use Rattle.months_rules.proofs.Calendars.{senmyo_steady}
use Rattle.months_rules.proofs.Figures.{has_test, month_with_lem}
use Rattle.calendar_month.specs.Asked.{regular_month}
use Rattle.calendar_eclipses.proofs.Figures.{eclipse_1522}
use Rattle.calendar_date.proofs.Figures.{day_643}
use Rattle.calendar_year.proofs.Figures.{months_643}
use Rattle.check_worked.specs.Worked.{Every, twelve, Solstice, Sun, Moon, Advance, Month1413, Eclipse, Year643, eight}

-- month m of 1522 has the new moon of that number
pub month_1522 : (m : ℕ) → T (has_test senmyo (87454577 + m) (mid senmyo (senmyo.rain_water 1522 + (m - 1)))) → regular_month senmyo 1522 m ≡ 87454577 + m
month_1522 m t = month_with_lem senmyo senmyo_steady (87454577 + m) (senmyo.rain_water 1522 + (m - 1)) t

-- what is told of the twelve months is told of the new moons of these numbers
pub of_1522 : {A : Type 0} (f : ℕ → A) → map (λ m. f (regular_month senmyo 1522 m)) twelve ≡ map (λ m. f (87454577 + m)) twelve
unfolding day_at
of_1522 f = rw (month_1522 1 tt, month_1522 2 tt, month_1522 3 tt, month_1522 4 tt, month_1522 5 tt, month_1522 6 tt, month_1522 7 tt, month_1522 8 tt, month_1522 9 tt, month_1522 10 tt, month_1522 11 tt, month_1522 12 tt)

month_11 : regular_month senmyo 1521 11 ≡ 87454576
unfolding day_at
month_11 = month_with_lem senmyo senmyo_steady 87454576 (senmyo.rain_water 1521 + 10) tt

solstice : Solstice
solstice = (refl, (refl, rw month_11))

sun : Sun
unfolding sun_at
sun = rw (of_1522 (λ k. sun_of (fen_to_byo (mean_new_moon k)))) refl

moon : Moon
unfolding moon_at
moon = rw (of_1522 (λ k. moon_of (byo_to_anomaly_seconds (fen_to_byo (mean_new_moon k))))) refl

advance : Advance
unfolding day_at
advance = (rw (month_1522 2 tt), rw (month_1522 5 tt))

-- month 1 of 1413
pub first_1413 : regular_month senmyo 1413 1 ≡ 87453230
unfolding day_at
first_1413 = month_with_lem senmyo senmyo_steady 87453230 (senmyo.rain_water 1413) tt

month_1413 : Month1413
unfolding sun_at moon_at
month_1413 = (rw first_1413, rw first_1413)

eclipse : Eclipse
eclipse = rw eclipse_1522

year_643 : Year643
year_643 = rw months_643

pub worked : Every eight
worked = (solstice, (sun, (moon, (advance, (month_1413, (eclipse, (year_643, ((day_643, refl), tt))))))))
