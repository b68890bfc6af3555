-- `calendar_date::date_in` meets its contract: the month that has the day gives year, number and leap, and its first day the rest.
use Rattle.std.proofs.Common.{◌≡◌, ℕ, ◌+◌, ◌<◌, ◌≤◌, sym, arith}
use Rattle.numbers.proofs.Spans.{span_holds}
use Rattle.months_rules.specs.declared.Begun.{Begun}
use Rattle.months_rules.specs.declared.Calendar.{Calendar}
use Rattle.months_rules.specs.Rules.{rules_of}
use Rattle.months_rules.specs.FirstMonths.{begun, month_of}
use Rattle.months_rules.proofs.Calendars.{steady}
use Rattle.months.specs.Room.{CoveredMonth}
use Rattle.months.proofs.CoveredYears.{its_term}
use Rattle.months.proofs.YearOfMonth.{year_told}
use Rattle.months.proofs.Terms.{number_of_last}
use Rattle.months.proofs.CoveredMonths.{month_room}
use Rattle.calendar_date.specs.Room.{CoveredDay}
use Rattle.calendar_date.proofs.Covered.{day_month}
use Rattle.calendar_date.proofs.date_in.Goals as goal

-- the month that was found is covered, and has the day
record Found (k : Calendar) (day : ℕ) (b : Begun) : Type 0 where
  month : CoveredMonth (rules_of k) b
  from : b.start ≤ day
  to : day < (rules_of k).start (b.month + 1)

found : (k : Calendar) (day : ℕ) (b : Begun) → CoveredDay (rules_of k) day → b ≡ begun (rules_of k) (month_of (rules_of k) day) → Found k day b
found k day b covered e =
    let held = span_holds (rules_of k).start (steady k).months_grow day in
    record { month = rw e (day_month k day covered); from = rw e held.from; to = rw e held.to }

pub last_term_of-last-requires-clause-starting : goal.last_term_of-last-requires-clause-starting
last_term_of-last-requires-clause-starting c =
    (month_room _ _ (found _ _ _ c.requires c.month_of-found.ensures).month).fits

pub last_term_of-last-requires-clause-month_days : goal.last_term_of-last-requires-clause-month_days
last_term_of-last-requires-clause-month_days c =
    (month_room _ _ (found _ _ _ c.requires c.month_of-found.ensures).month).days

pub term_year-requires : goal.term_year-requires
term_year-requires c =
    rw c.last_term_of-last.ensures (its_term _ _ (found _ _ _ c.requires c.month_of-found.ensures).month.covering)

pub overflow_sub-result : goal.overflow_sub-result
overflow_sub-result c = (found _ _ _ c.requires c.month_of-found.ensures).from

pub overflow_cast-result-2 : goal.overflow_cast-result-2
overflow_cast-result-2 c =
    let f = found _ _ _ c.requires c.month_of-found.ensures in
    omega (arith, f.to, (month_room _ _ f.month).at_most)

pub returns : goal.returns
returns c =
    let r = rules_of c.args.calendar in
    let s = steady c.args.calendar in
    rw (
      c.term_year.ensures,
      c.term_number.ensures,
      c.last_term_of-last.ensures,
      year_told r s _ (found _ _ _ c.requires c.month_of-found.ensures).month.covering,
      sym (number_of_last r s c.month_of-found.result.month),
      c.month_of-found.ensures,
    )
