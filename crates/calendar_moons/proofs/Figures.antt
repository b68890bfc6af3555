-- The calls' definitions at 01's worked figures and edges.
use mathlib.Core.Path.{◌≡◌, refl}
use mathlib.Core.Bool.{false}
use Prim.Native.Nat.{◌+◌}
use lib.Ieee.{binary64, round, to_bits}
use Rattle.answers.specs.Answer.{given}
use Rattle.answers.specs.Conditions.{asking}
use Rattle.julian.specs.Julian.{rounded, instant}
use Rattle.senmyo.specs.Phases.{corrections}
use Rattle.senmyo.specs.FullMoons.{full_moon_sky}
use Rattle.senmyo.proofs.Worked.{sun_at, moon_at, day_at}
use Rattle.months_rules.specs.Rules.{senmyo, genka, rules_of}
use Rattle.months_rules.proofs.Calendars.{senmyo_steady, genka_steady}
use Rattle.months_rules.proofs.Figures.{month_with_lem}
use Rattle.calendar_moons.specs.Instants.{instant_in, of_month, new_moon_of, full_moon_of}

-- 1522 month 5, whose first day is 2277114: its new moon, at 7941 fen, stands on the day before
new_moon_1522 : new_moon_of 1 1522 5 false ≡ given (instant 2277113 7941 8400)
unfolding asking of_month new_moon_of rules_of instant_in day_at
new_moon_1522 = rw (month_with_lem senmyo senmyo_steady 87454582 (senmyo.rain_water 1522 + 4) tt)

-- month 2: the full moon of its eclipse
full_moon_1522 : full_moon_of 1 1522 2 false ≡ given (instant 2277039 6215 8400)
unfolding asking of_month full_moon_of rules_of instant_in day_at sun_at moon_at corrections full_moon_sky
full_moon_1522 = rw (month_with_lem senmyo senmyo_steady 87454579 (senmyo.rain_water 1522 + 1) tt)

-- 643 month 5 opens on day 1956057; its full moon is half a month later
new_moon_643 : new_moon_of 2 643 5 false ≡ given (instant 1956057 212 1504)
unfolding asking of_month new_moon_of rules_of instant_in
new_moon_643 = rw (month_with_lem genka genka_steady 73014 (genka.rain_water 643 + 4) tt)

full_moon_643 : full_moon_of 2 643 5 false ≡ given (instant 1956071 1363 1504)
unfolding asking of_month full_moon_of rules_of instant_in
full_moon_643 = rw (month_with_lem genka genka_steady 73014 (genka.rain_water 643 + 4) tt)

-- the eight bytes of an instant
bytes_1522 : to_bits binary64 (instant 2277113 7941 8400) ≡ 0x4141_5f7c_b901_767e
unfolding to_bits instant rounded round
bytes_1522 = refl
