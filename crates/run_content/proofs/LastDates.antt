-- The last date at a place of a run tells its month: the year, the number, whether it is leap, and the length.
use Prim.Native.Nat.{ℕ, ◌+◌, ◌<◌}
use native.Mathlib.Omega.{arith}
use lib.ListN.{get_or}
use Rattle.months_rules.specs.Rules.{Rules}
use Rattle.months_rules.proofs.Calendars.{steady}
use Rattle.months.specs.Months.{month_length, year_with, is_leap, number_of}
use Rattle.months.specs.Room.{Covering}
use Rattle.months.specs.Year.{MonthDays}
use Rattle.months.proofs.Terms.{number_of_last}
use Rattle.months.proofs.YearOfMonth.{year_from_lem, year_to}
use Rattle.months.proofs.CoveredYears.{its_days}
use Rattle.calendar_range.specs.Room.{CoveredYear}
use Rattle.calendar_range.proofs.Covered.{covered_year_tested}
use Rattle.calendar_range.proofs.Numbers.{year_small}
use Rattle.calendar_date.specs.declared.Date.{Date}
use Rattle.calendar_date.proofs.DateNumbers.{Small, Parts, parts}
use Rattle.run_content.specs.declared.Run.{Run}
use Rattle.run_content.specs.Room.{Kept}
use Rattle.run_content.proofs.Content.{its_calendar, its_rules, its_first, own_date, own_covering}

-- the last date of month k
abbrev pub last_of : Rules → ℕ → Date
last_of r k = record { year = year_with r k; month = number_of r k; leap = is_leap r k; day = month_length r k }

module _ {run : Run} (kept : Kept run) (i : ℕ) (inside : i < run.count) where
  abbrev month : ℕ
  month = its_first run + i

  covers : Covering (its_rules run) month
  covers = own_covering kept i inside

  -- it has 29 or 30 days, and its numbers have room beside each other
  pub month_days : MonthDays (its_rules run) month
  month_days = its_days (its_calendar run) month covers

  pub last_small : Small (last_of (its_rules run) month)
  last_small =
      let covered : CoveredYear (its_rules run) (year_with (its_rules run) month) = record { from = year_from_lem _ (steady (its_calendar run)) month covers; to = year_to _ (steady (its_calendar run)) month covers } in
      record {
        year = omega (arith, year_small run.calendar (year_with (its_rules run) month) (covered_year_tested (its_rules run) _ covered));
        month = rw (number_of_last _ (steady (its_calendar run)) month) (omega arith);
        day = omega (arith, month_days.at_most);
      }

  -- its year, its number, whether it is leap, and its length
  pub told : Parts (get_or run.last_dates i 0) (last_of (its_rules run) month)
  told = rw (own_date kept i inside) (parts (last_of (its_rules run) month) last_small)
