-- `calendar_range::asked_year` meets its contract: after the calendar, it asks for the first and the last covered year.
use Rattle.answers.proofs.Answers.{handed_on_as}
use borrow.Author.Tests.{le-leb, lt-leb}
use Rattle.answers.specs.Conditions.{asking}
use Rattle.calendar_range.specs.Answers.{known_year}
use Rattle.calendar_range.proofs.Steps.{year_asked_lem}
use Rattle.calendar_range.proofs.asked_year.Goals as goal

pub returns-in_err-calendar : goal.returns-in_err-calendar
returns-in_err-calendar c = rw (handed_on_as known_year _ _ c.from_residual.ensures.1, year_asked_lem, ← c.in_err-calendar.ensures)

pub returns-then-year-numbers : goal.returns-then-year-numbers
unfolding asking
returns-then-year-numbers c =
    rw (year_asked_lem, ← c.in_ok-calendar.ensures, lt-leb _ _ (rw c.numbers-numbers.ensures at c.if-year-numbers.true))

pub returns-then-numbers-year : goal.returns-then-numbers-year
unfolding asking
returns-then-numbers-year c =
    let bounds = c.numbers-numbers.ensures in
    rw (year_asked_lem, ← c.in_ok-calendar.ensures, le-leb _ _ (rw bounds at c.if-year-numbers.false), lt-leb _ _ (rw bounds at c.if-numbers-year.true))

pub returns : goal.returns
unfolding asking
returns c =
    let bounds = c.numbers-numbers.ensures in
    rw (year_asked_lem, ← c.in_ok-calendar.ensures, le-leb _ _ (rw bounds at c.if-year-numbers.false), le-leb _ _ (rw bounds at c.if-numbers-year.false))
