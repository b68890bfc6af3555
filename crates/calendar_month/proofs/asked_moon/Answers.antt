-- `calendar_month::asked_moon` meets its contract: month `number` has the mid-term of that number, and a leap month is behind it if the next mid-term is not.
use Rattle.std.proofs.Common.{◌∙◌, arith}
use Rattle.answers.proofs.Answers.{handed_on}
use borrow.Author.Tests.{le-leb, lt-leb}
use Rattle.answers.specs.Conditions.{asking}
use Rattle.calendar_month.specs.Room.{moon_number}
use Rattle.calendar_month.proofs.Steps.{moon_asked_lem, regular_found}
use Rattle.calendar_month.proofs.LeapMonths.{regular_small, leap_behind, none_behind}
use Rattle.calendar_month.proofs.asked_moon.Goals as goal

pub returns-in_err-known : goal.returns-in_err-known
returns-in_err-known c = handed_on _ _ c.from_residual.ensures.1 ∙ rw (moon_asked_lem, ← c.in_err-known.ensures)

pub returns-then-number-lt1 : goal.returns-then-number-lt1
unfolding asking
returns-then-number-lt1 c = rw (moon_asked_lem, ← c.in_ok-known.ensures, lt-leb _ _ c.if-number-lt1.true)

pub returns-then-number-gt12 : goal.returns-then-number-gt12
unfolding asking
returns-then-number-gt12 c =
    rw (moon_asked_lem, ← c.in_ok-known.ensures, le-leb _ _ c.if-number-lt1.false, lt-leb _ _ c.if-number-gt12.true)

pub overflow_add-regular : goal.overflow_add-regular
overflow_add-regular c =
    rw c.month_with-regular.ensures
    (omega (arith, regular_small _ _ c.in_ok-known.known.covered _ c.if-number-lt1.false c.if-number-gt12.false))

pub overflow_add-result : goal.overflow_add-result
overflow_add-result c =
    rw c.month_with-regular.ensures
    (omega (arith, regular_small _ _ c.in_ok-known.known.covered _ c.if-number-lt1.false c.if-number-gt12.false))

pub returns-then-month_with-regular : goal.returns-then-month_with-regular
returns-then-month_with-regular c =
    rw (moon_asked_lem, ← c.in_ok-known.ensures, c.if-leap.true)
    (none_behind _ _ c.in_ok-known.known.covered _ c.if-number-lt1.false c.if-number-gt12.false (rw (c.month_with.ensures, c.month_with-regular.ensures) at c.if-month_with-regular.true))

pub returns-then-leap : goal.returns-then-leap
returns-then-leap c =
    rw (moon_asked_lem, ← c.in_ok-known.ensures, c.if-leap.true, c.month_with-regular.ensures)
    (leap_behind _ _ c.in_ok-known.known.covered _ c.if-number-lt1.false c.if-number-gt12.false (rw (c.month_with.ensures, c.month_with-regular.ensures) at c.if-month_with-regular.false))

pub returns : goal.returns
returns c =
    rw (moon_asked_lem, ← c.in_ok-known.ensures, c.if-leap.false, c.month_with-regular.ensures)
    (regular_found moon_number _ _ _ c.if-number-lt1.false c.if-number-gt12.false)
