-- `calendar_month::leap_month` meets its contract: the month before the one that has the next mid-term is leap exactly if it starts after the mid-term of the number.
use Rattle.std.proofs.Common.{arith}
use Rattle.calendar_month.proofs.LeapMonths.{next_from_1, leap_before, none_before}
use Rattle.calendar_month.proofs.leap_month.Goals as goal

pub overflow_sub-next : goal.overflow_sub-next
overflow_sub-next c =
    rw (c.month_of-next.ensures, c.term_day.ensures)
    (omega (arith, next_from_1 c.args.known.calendar c.args.known.year c.args.known.covered c.args.number c.requires.0 c.requires.1))

pub returns-then-term_day-before : goal.returns-then-term_day-before
returns-then-term_day-before c =
    let taken = rw (c.term_day-2.ensures, c.begin-before.ensures, c.month_of-next.ensures, c.term_day.ensures) at c.if-term_day-before.true in
    rw (c.begin-before.ensures, c.month_of-next.ensures, c.term_day.ensures)
    (leap_before c.args.known.calendar c.args.known.year c.args.known.covered c.args.number c.requires.0 c.requires.1 taken)

pub returns : goal.returns
returns c =
    none_before c.args.known.calendar c.args.known.year c.args.known.covered c.args.number c.requires.0 c.requires.1
    (rw (c.term_day-2.ensures, c.begin-before.ensures, c.month_of-next.ensures, c.term_day.ensures) at c.if-term_day-before.false)
