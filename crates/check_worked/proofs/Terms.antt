-- The true terms of the worked cases, computed.
use mathlib.Core.Path.{refl, ap}
use Rattle.units.specs.Units.{fen_to_byo}
use Rattle.senmyo_means.specs.Means.{mean_new_moon, mean_full_moon}
use Rattle.senmyo_sun.specs.Sun.{sun_place}
use Rattle.senmyo.proofs.Worked.{sun_at, day_at}
use Rattle.check_worked.specs.Terms.{NewMoons1522, FullMoon1522, NewMoon1413}
use Rattle.check_worked.proofs.Worked.{month_1522, of_1522, first_1413}

new_moons_1522 : NewMoons1522
unfolding sun_at
new_moons_1522 = rw (of_1522 (λ k. (sun_place (fen_to_byo (mean_new_moon k))).term)) refl

full_moon_1522 : FullMoon1522
unfolding day_at
full_moon_1522 = rw (ap (λ k. (sun_place (mean_full_moon k)).term) (month_1522 2 tt)) refl

new_moon_1413 : NewMoon1413
unfolding sun_at
new_moon_1413 = rw (ap (λ k. (sun_place (fen_to_byo (mean_new_moon k))).term) first_1413) refl

pub none_in_xiaohan : NewMoons1522 × (FullMoon1522 × NewMoon1413)
none_in_xiaohan = (new_moons_1522, (full_moon_1522, new_moon_1413))
