-- The rule's fields of a covered year: where they stand in the year's list, and that they fit their bytes.
use mathlib.Core.Path.{◌≡◌, sym, ap}
use mathlib.Core.Bool.{true}
use Prim.Native.Nat.{ℕ, ◌+◌, ◌<◌, ◌≤◌, ◌^◌}
use native.Mathlib.Omega.{arith}
use lib.ListN.{get_or}
use lib.Pow.{pow_mono}
use Rattle.answers.specs.Answer.{given}
use Rattle.months_rules.specs.declared.Calendar.{Calendar}
use Rattle.months_rules.specs.Rules.{Rules, rules_of, day_number}
use Rattle.months_rules.specs.FirstMonths.{first_month, first_day_of}
use Rattle.months.specs.Months.{month_count}
use Rattle.calendar_range.specs.Range.{is_calendar, numbered, rules_for, is_covered}
use Rattle.calendar_range.specs.Room.{CoveredYear}
use Rattle.calendar_range.proofs.Covered.{covered_year_told}
use Rattle.calendar_range.proofs.Numbers.{calendar_small, year_small}
use Rattle.calendar_year.specs.declared.Month.{Month}
use Rattle.calendar_year.specs.declared.Year.{Year}
use Rattle.calendar_year.specs.Years.{listed, no_month, year_in, year_of}
use Rattle.calendar_year.proofs.Covered.{year_room}
use Rattle.calendar_year.proofs.YearLaws.{listed_at, leap_small}
use Rattle.calendar_year.proofs.FirstDays.{day_small}
use Rattle.calendar_year.proofs.Refusals.{year_given}
use Rattle.record_fields.specs.Fields.{long_months_of, fields_in}
use Rattle.record_fields.specs.Room.{fields_of}
use Rattle.record_fields.proofs.LongMonths.{unused_bits_0}
use Rattle.record_fields.proofs.YearFields.{Small}
use Rattle.record_fields.proofs.Steps.{fields_then, fields_refused}

-- the first month listed begins on the year's first day
first_listed : (c : Calendar) (y : ℕ) → CoveredYear (rules_of c) y → (get_or (year_in (rules_of c) y).months 0 no_month).first_day ≡ day_number (rules_of c) (first_day_of (rules_of c) y)
first_listed c y covered =
    let room = year_room c y covered in
    let here : first_month (rules_of c) y + 0 ≡ first_month (rules_of c) y = omega arith in
    rw here at (ap (λ (m : Month). m.first_day) (listed_at c y covered 0 no_month (omega (arith, room.at_least))))

-- no bit of the long months is 1 but those of the year's months
pub unused_bits : (r : Rules) (y : ℕ) → long_months_of (year_in r y).months < 2 ^ month_count r y
unfolding year_in
unused_bits r y = unused_bits_0 (listed r) (first_month r y) (month_count r y) 13

long_small : (c : Calendar) (y : ℕ) → CoveredYear (rules_of c) y → long_months_of (year_in (rules_of c) y).months < 8192
long_small c y covered =
    let at_most : month_count (rules_of c) y ≤ 13 = omega (arith, (year_room c y covered).at_most) in
    omega (arith, unused_bits (rules_of c) y, pow_mono at_most)

-- ---- the fields of a covered year

-- they fit their bytes ..
module _ (c y : ℕ) (is : is_calendar c ≡ true) (covered : is_covered (rules_for c) y ≡ true) where
  its_year : CoveredYear (rules_for c) y
  its_year = covered_year_told (rules_for c) y covered

  pub fields_small : Small (fields_in c y)
  unfolding fields_in
  fields_small =
      record {
        calendar = omega (arith, calendar_small c is);
        year = omega (arith, year_small c y covered);
        first_day = omega (arith, day_small (numbered c) y its_year);
        leap = omega (arith, leap_small (numbered c) y its_year);
        long_months = omega (arith, long_small (numbered c) y its_year);
      }

-- .. so that the calendar and year of a year that is answered do
module _ (c y : ℕ) (x : Year) (e : given x ≡ year_of c y) where
  answered_small : Small (fields_in c y)
  answered_small = let g = (year_given c y x).only_if (sym e) in fields_small c y g.0.0 g.0.1.0

  pub calendar_fits : c < 256
  unfolding fields_in
  calendar_fits = answered_small.calendar

  pub year_fits : y < 65536
  unfolding fields_in
  year_fits = answered_small.year

-- the fields of a year as its list has them
pub fields_listed : (c y : ℕ) (x : Year) → year_of c y ≡ given x → fields_in c y ≡ record { calendar = c; year = y; first_day = (get_or x.months 0 no_month).first_day; leap = x.leap; long_months = long_months_of x.months }
unfolding fields_in
fields_listed c y x e =
    let g = (year_given c y x).only_if e in
    let first = first_listed (numbered c) y (covered_year_told (rules_for c) y g.0.1.0) in
    rw (sym g.1, first)

-- .. and as the code answers them
pub fields_told : (c y : ℕ) (x : Year) (long : ℕ) → given x ≡ year_of c y → long ≡ long_months_of x.months → given (record { calendar = c; year = y; first_day = (get_or x.months 0 no_month).first_day; leap = x.leap; long_months = long }) ≡ fields_of c y
fields_told c y x long e told = rw (fields_then, ← e, fields_listed c y x (sym e), told)

pub ruleset telling = (calendar_fits, year_fits, fields_told, fields_refused)
