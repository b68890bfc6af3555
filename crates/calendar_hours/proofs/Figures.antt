-- The call's definition at the request's example, and its refusals.
use mathlib.Core.Path.{◌≡◌, refl}
use mathlib.Core.Bool.{true, false}
use Prim.Native.Nat.{◌+◌}
use Rattle.answers.specs.Answer.{given, refused}
use Rattle.answers.specs.Conditions.{asking}
use Rattle.numbers.specs.Rounding.{nearest, modulo}
use Rattle.units.specs.Units.{fen, ke}
use Rattle.senmyo_moon.specs.Moon.{in_table, half_of, upper_rows, lower_rows}
use Rattle.senmyo_moon.specs.Daily.{daily_change, change_in_row, change_of}
use Rattle.senmyo_node.specs.Eclipse.{node_place, distance_of, node_of, grade_of}
use Rattle.senmyo.specs.Phases.{corrections}
use Rattle.senmyo.specs.FullMoons.{full_moon_sky}
use Rattle.senmyo.proofs.Worked.{sun_at, moon_at, day_at}
use Rattle.senmyo_hours.specs.Hours.{length_of, times_from, times_at}
use Rattle.months_rules.specs.Rules.{senmyo, rules_of}
use Rattle.months_rules.proofs.Calendars.{senmyo_steady}
use Rattle.months_rules.proofs.Figures.{month_with_lem}
use Rattle.calendar_hours.specs.declared.Hours.{Hours}
use Rattle.calendar_hours.specs.Hours.{hours_in, has_eclipse, hours_of}

-- 1522 month 2: length 1696, start 5367, middle 6215, end 7063 fen
abbrev of_1522 : Hours
of_1522 =
    record {
      length = fen 1696;
      ke = ke 20;
      over = fen 16;
      start = record { day = 2277039; fen = fen 5367; ke = ke 63 };
      middle = record { day = 2277039; fen = fen 6215; ke = ke 73 };
      end = record { day = 2277039; fen = fen 7063; ke = ke 84 };
    }

in_1522 : hours_in 87454579 ≡ of_1522
unfolding hours_in times_at times_from length_of change_of change_in_row daily_change in_table half_of upper_rows lower_rows nearest modulo sun_at moon_at corrections full_moon_sky node_place node_of distance_of grade_of
in_1522 = refl

has_1522 : has_eclipse 87454579 ≡ true
unfolding has_eclipse grade_of node_of distance_of node_place nearest modulo sun_at moon_at corrections full_moon_sky
has_1522 = refl

pub hours_1522 : hours_of 1 1522 2 false ≡ given of_1522
unfolding asking hours_of rules_of day_at
hours_1522 = rw (month_with_lem senmyo senmyo_steady 87454579 (senmyo.rain_water 1522 + 1) tt, has_1522, in_1522)

-- ---- refusals, the first in the order 1, 13, 2, 3, 14 where several hold

calendar_3 : hours_of 3 0 0 false ≡ refused 1
unfolding asking hours_of
calendar_3 = refl

genka_0 : hours_of 2 0 0 false ≡ refused 13
unfolding asking hours_of
genka_0 = refl

year_1685 : hours_of 1 1685 13 false ≡ refused 2
unfolding asking hours_of rules_of
year_1685 = refl

month_13 : hours_of 1 1522 13 false ≡ refused 3
unfolding asking hours_of rules_of
month_13 = refl

-- month 1 of 1522 has no eclipse
none_in_month_1 : has_eclipse 87454578 ≡ false
unfolding has_eclipse grade_of node_of distance_of node_place nearest modulo sun_at moon_at corrections full_moon_sky
none_in_month_1 = refl

month_1 : hours_of 1 1522 1 false ≡ refused 14
unfolding asking hours_of rules_of day_at
month_1 = rw (month_with_lem senmyo senmyo_steady 87454578 (senmyo.rain_water 1522) tt, none_in_month_1)
