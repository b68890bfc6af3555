-- Years begin one after the other, each on a day of its own.
use mathlib.Core.Path.{◌≡◌}
use Prim.Native.Nat.{ℕ, ◌+◌, ◌<◌, ◌≤◌, ◌^◌}
use native.Mathlib.Omega.{arith, by_contra}
use Rattle.numbers.proofs.Spans.{later}
use Rattle.months_rules.specs.declared.Calendar.{Calendar}
use Rattle.months_rules.specs.Rules.{Rules, rules_of, day_number}
use Rattle.months_rules.specs.FirstMonths.{first_month, first_day_of}
use Rattle.months_rules.proofs.Calendars.{steady}
use Rattle.months_rules.proofs.FirstMonths.{years_in_order}
use Rattle.months.proofs.CoveredYears.{edges}
use Rattle.calendar_range.specs.Room.{CoveredYear}
use Rattle.calendar_year.proofs.Covered.{year_room}

module _ (c : Calendar) where
  abbrev r : Rules
  r = rules_of c

  -- a year begins before the next ..
  begins_before : (y : ℕ) → CoveredYear r y → first_day_of r y < first_day_of r (y + 1)
  begins_before y covered =
      let room = year_room c y covered in
      omega (arith, later r.start (steady c).months_grow (first_month r y) (first_month r (y + 1)) (omega arith))

  -- .. and not after any later one
  begins_by : (y z : ℕ) → y ≤ z → first_day_of r y ≤ first_day_of r z
  begins_by y z h =
      let months = years_in_order r (steady c) y z h in
      omega (arith, later r.start (steady c).months_grow (first_month r y) (first_month r z) months)

  in_turn : (y z : ℕ) → CoveredYear r y → y < z → first_day_of r y < first_day_of r z
  in_turn y z covered h = omega (arith, begins_before y covered, begins_by (y + 1) z (omega arith))

  from_0 : (y : ℕ) → CoveredYear r y → r.day_zero < first_day_of r y
  from_0 y covered = omega (arith, (edges c).first_day, begins_by r.first_year y covered.from)

  pub day_small : (y : ℕ) → CoveredYear r y → day_number r (first_day_of r y) < 2 ^ 22
  day_small y covered = omega (arith, from_0 y covered, (edges c).last_day, begins_by y (r.last_year + 1) (omega arith))

  -- two covered years that begin on one day are one
  pub one_beginning : (y z : ℕ) → CoveredYear r y → CoveredYear r z → day_number r (first_day_of r y) ≡ day_number r (first_day_of r z) → y ≡ z
  one_beginning y z covered_y covered_z e =
      let low = from_0 y covered_y in
      let high = from_0 z covered_z in
      omega (arith, by_contra y z (λ l. omega (arith, in_turn z y covered_z l)), by_contra z y (λ l. omega (arith, in_turn y z covered_y l)))
