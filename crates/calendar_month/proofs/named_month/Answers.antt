-- `calendar_month::named_month` meets its contract: month `number` has the mid-term of that number, and a leap month is looked for by itself.
use borrow.Author.Tests.{le-leb, lt-leb}
use Rattle.answers.specs.Conditions.{asking}
use Rattle.months_rules.specs.FirstMonths.{begun}
use Rattle.calendar_month.proofs.Steps.{regular_found}
use Rattle.calendar_month.proofs.named_month.Goals as goal

pub returns-then-number-lt1 : goal.returns-then-number-lt1
unfolding asking
returns-then-number-lt1 c = rw (lt-leb _ _ c.if-number-lt1.true)

pub returns-then-number-gt12 : goal.returns-then-number-gt12
unfolding asking
returns-then-number-gt12 c = rw (le-leb _ _ c.if-number-lt1.false, lt-leb _ _ c.if-number-gt12.true)

pub returns : goal.returns
returns c =
    rw (c.if-leap.false, c.month_of.ensures, c.term_day-day.ensures) (regular_found begun _ _ _ c.if-number-lt1.false c.if-number-gt12.false)
