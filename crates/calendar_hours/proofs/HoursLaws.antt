-- What is told of every answer that is given: its times follow each other as its length says, and its middle is the eclipse's full moon.
use mathlib.Core.Path.{◌≡◌, refl, subst}
use mathlib.Core.Bool.{Bool}
use Prim.Native.Nat.{ℕ, ◌+◌, ◌*◌}
use native.Mathlib.Omega.{arith}
use Rattle.answers.specs.Answer.{given}
use Rattle.units.specs.declared.Fen.{Fen}
use Rattle.units.specs.Units.{day_fen}
use Rattle.senmyo_hours.specs.Hours.{times_from, times_at}
use Rattle.senmyo_hours.proofs.HourLaws.{in_order, half_back, length_at}
use Rattle.months_rules.specs.Rules.{senmyo}
use Rattle.months.specs.Room.{Covering}
use Rattle.calendar_range.specs.Range.{rules_for}
use Rattle.calendar_month.specs.Asked.{month_named}
use Rattle.calendar_eclipses.specs.Eclipses.{full_moon_at}
use Rattle.calendar_eclipses.proofs.Refusals.{asked_given}
use Rattle.calendar_eclipses.proofs.Steps.{asked_covered}
use Rattle.calendar_hours.specs.declared.Hours.{Hours}
use Rattle.calendar_hours.specs.Hours.{hour_at, clock, hours_in, hours_of, HoursInOrder, HoursSmall}
use Rattle.calendar_hours.specs.Room.{Numbered}
use Rattle.calendar_hours.proofs.Steps.{all_numbered}
use Rattle.calendar_hours.proofs.Refusals.{hours_given}

-- the clock of a moment whose day has a day number: nothing is cut off
clock_exact : (t : Fen) → Numbered t → clock (hour_at t) + senmyo.day_zero * day_fen ≡ t.0
clock_exact t h = omega (arith, h.from)

hours_in_order : (k : ℕ) → Covering senmyo k → HoursInOrder (hours_in k)
unfolding hours_in times_from times_at
hours_in_order k h =
    let all = all_numbered k h in
    let order = in_order k in
    let start = clock_exact (times_at k).start all.start in
    let middle = clock_exact (times_at k).middle all.middle in
    let end = clock_exact (times_at k).end all.end in
    record {
      start_first = omega (arith, order.start_first, start, middle);
      end_last = omega (arith, order.end_last, middle, end);
      within_day = omega (arith, order.within_day, start, end);
      half = omega (arith, half_back k, start, middle);
      whole = omega (arith, start, end);
    }

hours_small : (k : ℕ) → HoursSmall (hours_in k)
unfolding hours_in times_from times_at
hours_small k = let length = length_at k in
    record {
      length_below = omega (arith, length);
      ke_below = omega (arith, length);
      over_below = omega arith;
      start = record { fen_below = omega arith; ke_below = omega arith };
      middle = record { fen_below = omega arith; ke_below = omega arith };
      end = record { fen_below = omega arith; ke_below = omega arith };
    }

-- the middle is the full moon that the eclipse's answer has
pub middle_is_full_moon : (k : ℕ) → ((hours_in k).middle.day ≡ (full_moon_at k).day) × ((hours_in k).middle.fen ≡ (full_moon_at k).fen)
unfolding hours_in times_from times_at full_moon_at
middle_is_full_moon k = (refl, refl)

-- ---- of an answer

module _ (c y m : ℕ) (leap : Bool) (h : Hours) (e : hours_of c y m leap ≡ given h) where
  abbrev month : ℕ
  month = month_named (rules_for c) y m leap

  -- it is that of its month, which is covered
  given_is : hours_in month ≡ h
  given_is = ((hours_given c y m leap h).only_if e).1

  given_covered : Covering senmyo month
  given_covered =
      let all = ((hours_given c y m leap h).only_if e).0 in
      asked_covered c y m leap month ((asked_given c y m leap month).if ((all.0, (all.1.0, (all.1.1.0, (all.1.1.1.0, tt)))), refl))

  pub given_in_order : HoursInOrder h
  given_in_order = subst HoursInOrder given_is (hours_in_order month given_covered)

  pub given_small : HoursSmall h
  given_small = subst HoursSmall given_is (hours_small month)
