-- `calendar_month::has_day` meets its contract: a covered month has days 1 to 29, and of any later one the next month tells.
use Rattle.std.proofs.Common.{◌≡◌, ap, arith}
use borrow.Author.Tests.{le-leb}
use Rattle.months_rules.specs.Rules.{rules_of}
use Rattle.months.specs.Months.{month_length}
use Rattle.months.proofs.CoveredMonths.{month_room}
use Rattle.calendar_month.proofs.has_day.Goals as goal

pub returns-then-day-lt30 : goal.returns-then-day-lt30
returns-then-day-lt30 c =
    let at = c.args in
    let room = month_room at.calendar at.month c.requires in
    rw (le-leb 1 at.day c.if-day-lt1.false, le-leb at.day (month_length (rules_of at.calendar) at.month.month) (omega (arith, c.if-day-lt30.true, room.days.at_least)))

pub overflow_add-month : goal.overflow_add-month
overflow_add-month c = omega (arith, (month_room c.args.calendar c.args.month c.requires).fits.small)

pub overflow_sub-result : goal.overflow_sub-result
overflow_sub-result c = omega (arith, ap (λ m. m.start) c.begin-next.ensures, (month_room c.args.calendar c.args.month c.requires).at_least)

pub returns : goal.returns
returns c =
    let at = c.args in
    let own : at.month.start ≡ (rules_of at.calendar).start at.month.month = ap (λ m. m.start) c.requires.own in
    rw (c.begin-next.ensures, own, le-leb 1 at.day c.if-day-lt1.false)
