-- `calendar_month::asked_month` meets its contract: after the year, the month is asked for, and then whether it has the day.
use Rattle.std.proofs.Common.{sym}
use Rattle.answers.proofs.Answers.{handed_on}
use Rattle.answers.specs.Conditions.{asking}
use Rattle.calendar_month.proofs.Steps.{month_asked_lem}
use Rattle.calendar_month.proofs.Covered.{named_covered}
use Rattle.calendar_month.proofs.asked_month.Goals as goal

pub returns-in_err-known : goal.returns-in_err-known
returns-in_err-known c = rw (handed_on _ _ c.from_residual.ensures.1, month_asked_lem, ← c.in_err-known.ensures)

pub returns-in_err-found : goal.returns-in_err-found
returns-in_err-found c =
    rw (handed_on _ _ c.from_residual-in_err-found.ensures.1, month_asked_lem, ← c.in_ok-known.ensures, ← c.in_err-found.ensures)

pub has_day-requires : goal.has_day-requires
has_day-requires c = named_covered _ _ c.in_ok-known.known.covered c.args.number c.args.leap _ (sym c.in_ok-found.ensures)

pub returns-then-has_day : goal.returns-then-has_day
unfolding asking
returns-then-has_day c = rw (month_asked_lem, ← c.in_ok-known.ensures, ← c.in_ok-found.ensures, ← c.has_day.ensures, c.if-has_day.true)

pub returns : goal.returns
unfolding asking
returns c = rw (month_asked_lem, ← c.in_ok-known.ensures, ← c.in_ok-found.ensures, ← c.has_day.ensures, c.if-has_day.false)
