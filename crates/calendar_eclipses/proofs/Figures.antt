-- The calls' definitions at 01's worked figures and edges.
use mathlib.Core.Path.{◌≡◌, refl}
use mathlib.Core.Bool.{true, false}
use Prim.Native.Nat.{◌+◌}
use Rattle.answers.specs.Answer.{given, refused}
use Rattle.answers.specs.Conditions.{asking}
use Rattle.numbers.specs.Rounding.{modulo}
use Rattle.units.specs.Units.{fen}
use Rattle.senmyo_node.specs.declared.Side.TheVariants.{Yin}
use Rattle.senmyo_node.specs.Eclipse.{partial, node_place, distance_of, node_of, grade_of}
use Rattle.senmyo.specs.Phases.{corrections}
use Rattle.senmyo.specs.FullMoons.{full_moon_sky}
use Rattle.senmyo.proofs.Worked.{sun_at, moon_at, day_at}
use Rattle.months_rules.specs.Rules.{senmyo, rules_of}
use Rattle.months_rules.proofs.Calendars.{senmyo_steady}
use Rattle.months_rules.proofs.Figures.{month_with_lem}
use Rattle.calendar_eclipses.specs.Eclipses.{full_moon_at, eclipse_of}

-- 1522 month 2: full moon 6215 fen, node distance 2241, yin ..
moon_1522 : full_moon_at 87454579 ≡ record { day = 2277039; fen = fen 6215; side = Yin; distance = fen 2241 }
unfolding full_moon_at sun_at moon_at corrections full_moon_sky node_place modulo node_of distance_of
moon_1522 = refl

-- .. 14 parts, remainder 412, strong
pub eclipse_1522 : eclipse_of 1 1522 2 false ≡
    given
    (record { day = 2277039; fen = fen 6215; side = Yin; distance = fen 2241 }, record { kind = partial; parts = 14; remainder = 412; strong = true })
unfolding asking eclipse_of rules_of day_at grade_of
eclipse_1522 = rw (month_with_lem senmyo senmyo_steady 87454579 (senmyo.rain_water 1522 + 1) tt, moon_1522)

-- Genka gives 13, also with a year and a month that are none
genka_643 : eclipse_of 2 643 5 false ≡ refused 13
unfolding asking eclipse_of
genka_643 = refl

genka_0 : eclipse_of 2 0 0 true ≡ refused 13
unfolding asking eclipse_of
genka_0 = refl

calendar_3 : eclipse_of 3 1522 2 false ≡ refused 1
unfolding asking eclipse_of
calendar_3 = refl

year_1685 : eclipse_of 1 1685 13 false ≡ refused 2
unfolding asking eclipse_of rules_of
year_1685 = refl

month_13 : eclipse_of 1 1522 13 false ≡ refused 3
unfolding asking eclipse_of rules_of
month_13 = refl
