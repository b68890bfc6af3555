-- `calendar_date::day_of` meets its contract: it counts from the first day of the month that has the day.
use Rattle.std.proofs.Common.{◌≡◌, ℕ, Bool, ◌+◌, ◌<◌, ◌≤◌, ◌^◌, sym, arith}
use Rattle.answers.proofs.Answers.{handed_on}
use Rattle.answers.specs.Answer.{given}
use Rattle.months_rules.specs.declared.Begun.{Begun}
use Rattle.months_rules.specs.declared.Calendar.{Calendar}
use Rattle.months_rules.specs.Rules.{rules_of}
use Rattle.months.proofs.CoveredYears.{edges}
use Rattle.months.proofs.CoveredMonths.{month_room}
use Rattle.calendar_month.specs.Asked.{month_asked}
use Rattle.calendar_month.proofs.Covered.{asked_month_covered, asked_day}
use Rattle.calendar_date.proofs.Steps.{day_asked}
use Rattle.calendar_date.proofs.day_of.Goals as goal

-- the day is one of 1 to 30, and a day of few digits
record DayIn (k : Calendar) (start day : ℕ) : Type 0 where
  from : 1 ≤ day
  to : day ≤ 30
  start_from : (rules_of k).day_zero ≤ start
  start_to : start + 29 ≤ (rules_of k).day_zero + 2 ^ 22
  zero_to : (rules_of k).day_zero + 2 ^ 22 < 2 ^ 32

day_in_lem : (c y m : ℕ) (leap : Bool) (d : ℕ) (k : Calendar) (b : Begun) → given (k, b) ≡ month_asked c y m leap d → DayIn k b.start d
day_in_lem c y m leap d k b e =
    let day = asked_day _ _ _ _ _ _ (sym e) in
    let room = month_room _ _ (asked_month_covered _ _ _ _ _ _ (sym e)) in
    record {
      from = day.0;
      to = day.1;
      start_from = room.from;
      start_to = omega (arith, room.at_least, room.to);
      zero_to = (edges k).day_zero_lem;
    }

pub returns-in_err-calendar : goal.returns-in_err-calendar
returns-in_err-calendar c = rw (handed_on _ _ c.from_residual.ensures.1, day_asked, ← c.in_err-calendar.ensures)

pub overflow_add-result : goal.overflow_add-result
overflow_add-result c = let d = day_in_lem _ _ _ _ _ _ _ c.in_ok-calendar.ensures in omega (arith, d.to, d.start_to, d.zero_to)

pub overflow_sub-result : goal.overflow_sub-result
overflow_sub-result c = omega (arith, (day_in_lem _ _ _ _ _ _ _ c.in_ok-calendar.ensures).from)

pub overflow_sub-result-2 : goal.overflow_sub-result-2
overflow_sub-result-2 c =
    let d = day_in_lem _ _ _ _ _ _ _ c.in_ok-calendar.ensures in
    rw c.numbers.ensures (omega (arith, d.from, d.start_from))

pub overflow_cast-result : goal.overflow_cast-result
overflow_cast-result c =
    let d = day_in_lem _ _ _ _ _ _ _ c.in_ok-calendar.ensures in
    rw c.numbers.ensures (omega (arith, d.from, d.to, d.start_from, d.start_to))

pub returns : goal.returns
returns c = rw (day_asked, ← c.in_ok-calendar.ensures, c.numbers.ensures)
