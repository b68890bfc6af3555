-- What stands at a place of an examined run: of one of its months, in order, the first day and the last date.
use mathlib.Core.Path.{◌≡◌, ap}
use mathlib.Core.Bool.{true, and-eq-true_iff}
use mathlib.Core.List.{List}
use Prim.Native.Nat.{ℕ, ◌+◌, ◌%◌, ◌<◌, ◌≤◌, ◌^◌}
use native.Mathlib.Omega.{arith}
use lib.ListN.{length, get_or, take}
use lib.Dec.{leb, ltb}
use borrow.Author.Tests.{leb-true, ltb-true}
use Rattle.std.proofs.lemmas.List.{length-take-le}
use Rattle.numbers.specs.Places.{places}
use Rattle.numbers.proofs.Places.{length_places}
use Rattle.months_rules.proofs.Calendars.{steady}
use Rattle.months_rules.proofs.FirstMonths.{years_in_order}
use Rattle.months.specs.Room.{Covering}
use Rattle.months.proofs.CoveredYears.{edges, starts_covered, ends_covered}
use Rattle.calendar_range.specs.Range.{is_covered}
use Rattle.calendar_range.specs.Room.{CoveredYear}
use Rattle.calendar_range.proofs.Covered.{covered_year_tested}
use Rattle.calendar_year.proofs.Covered.{year_room}
use Rattle.run_content.specs.declared.Run.{Run}
use Rattle.run_content.specs.Room.{Kept}
use Rattle.run_content.proofs.Content.{its_calendar, its_rules, its_first, own_count, own_day, own_covering, count_fits}
use Rattle.run_content.proofs.LastDates.{month_days, told}
use Rattle.run_lookup.specs.Room.{HeldYear}

-- ---- the years

pub record HeldYears (run : Run) (y : ℕ) : Type 0 where
  pub from : run.first_year ≤ y
  pub to : y < run.first_year + run.years

pub held_year_told : {run : Run} {y : ℕ} → HeldYear run y → HeldYears run y
held_year_told {run} {y} held =
    let (low, high) = (and-eq-true_iff (leb run.first_year y) (ltb y (run.first_year + run.years))).0 held.holds in
    record { from = leb-true _ _ low; to = ltb-true _ _ high }

module _ {run : Run} (kept : Kept run) where
  -- they are covered
  held_covered : (y : ℕ) → HeldYears run y → CoveredYear (its_rules run) y
  held_covered y told = record { from = omega (arith, told.from, kept.room.from); to = omega (arith, told.to, kept.room.to) }

  -- there is a month
  pub some_month : 1 ≤ run.count
  some_month =
      let room = year_room (its_calendar run) run.first_year (held_covered run.first_year (record { from = omega arith; to = omega (arith, kept.at_least_1) })) in
      let later_years = years_in_order _ (steady (its_calendar run)) (run.first_year + 1) (run.first_year + run.years) (omega (arith, kept.at_least_1)) in
      omega (arith, room.at_least, later_years, own_count kept.own)

pub held_year_covered : {run : Run} {y : ℕ} → HeldYear run y → is_covered (its_rules run) y ≡ true
held_year_covered {run} {y} held = covered_year_tested (its_rules run) y (held_covered held.kept y (held_year_told held))

-- ---- the used places of a row: one for each month

pub used_length : {run : Run} → Kept run → (thing : ℕ → ℕ) {row : List ℕ} → row ≡ places 0 thing (its_first run) run.count 174 → length (take run.count row) ≡ run.count
used_length {run} kept thing {row} e =
    length-take-le run.count row (omega (arith, ap length e, length_places 0 thing (its_first run) run.count 174, count_fits kept))

-- ---- a place

module _ {run : Run} (kept : Kept run) (i : ℕ) (inside : i < run.count) where
  abbrev month : ℕ
  month = its_first run + i

  covers : Covering (its_rules run) month
  covers = own_covering kept i inside

  -- its first day and its end
  pub starts : get_or run.first_days i 0 + (its_rules run).day_zero ≡ (its_rules run).start month
  starts = omega (arith, own_day kept i inside, starts_covered (its_calendar run) month covers, (edges (its_calendar run)).first_day)

  pub ends : get_or run.first_days i 0 + get_or run.last_dates i 0 % 100 + (its_rules run).day_zero ≡ (its_rules run).start (month + 1)
  ends = omega (arith, starts, (told kept i inside).day, (month_days kept i inside).at_least)

  pub ends_small : get_or run.first_days i 0 + get_or run.last_dates i 0 % 100 < 2 ^ 22
  ends_small = omega (arith, ends, ends_covered (its_calendar run) month covers, (edges (its_calendar run)).last_day)
