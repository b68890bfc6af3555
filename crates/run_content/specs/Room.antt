-- What inner functions ask of their callers, which have made sure of it, and what they find. No rule of the run.
use Rattle.std.specs.Prelude.{◌≡◌, true, List, ◌++◌, ℕ, ◌+◌, ◌-◌, ◌<◌, ◌≤◌, take, drop, replicate}
use Rattle.months.specs.Months.{month_count}
use Rattle.calendar_range.specs.Range.{is_calendar, rules_for}
use Rattle.calendar_date.specs.Dates.{date_number}
use Rattle.calendar_year.specs.declared.Month.{Month}
use Rattle.calendar_year.specs.declared.Year.{Year}
use Rattle.calendar_year.specs.Years.{year_in}
use Rattle.run_content.specs.declared.Run.{Run}
use Rattle.run_content.specs.Runs.{run_of}

-- ---- what is asked

-- so many years from a first one on are covered, and at most fourteen
pub record CoveredYears (c first years : ℕ) : Type 0 where
  pub known : is_calendar c ≡ true
  pub from : (rules_for c).first_year ≤ first
  pub to : first + years ≤ (rules_for c).last_year + 1
  pub at_most_14 : years ≤ 14

-- the run has the content of its years, of which there is one at least
pub record Kept (run : Run) : Type 0 where
  pub own : run ≡ run_of run.calendar run.first_year run.years
  pub room : CoveredYears run.calendar run.first_year run.years
  pub at_least_1 : 1 ≤ run.years

-- .. or of none, and there is room for the year after them
pub record Extendable (run : Run) : Type 0 where
  pub own : run ≡ run_of run.calendar run.first_year run.years
  pub room : CoveredYears run.calendar run.first_year (run.years + 1)

-- .. and that year is at hand, and there is room for its months
pub record NextYear (run : Run) (next : Year) : Type 0 where
  pub extendable : Extendable run
  pub year : next ≡ year_in (rules_for run.calendar) (run.first_year + run.years)
  pub year_small : run.first_year + run.years ≤ 1684
  pub at_most_13 : next.count ≤ 13
  pub fits : run.count + next.count ≤ 174

-- the run is kept, and has more than one year; it holds the first one's months, and all in its places
pub record Droppable (run : Run) : Type 0 where
  pub kept : Kept run
  pub more : 1 < run.years
  pub year_small : run.first_year ≤ 1684
  pub oldest_held : month_count (rules_for run.calendar) run.first_year ≤ run.count
  pub fits : run.count ≤ 174

-- ---- what is found

-- the last date of a month as a year lists it, as one number
abbrev pub last_date_of : ℕ → Month → ℕ
last_date_of y m = date_number (record { year = y; month = m.number; leap = m.leap; day = m.length })

-- of so many used places all but the first stand at the front, and zeros in those that they leave
abbrev pub moved_up : List ℕ → ℕ → ℕ → List ℕ
moved_up l first used = take (used - first) (drop first l) ++ (replicate first 0 ++ drop used l)
