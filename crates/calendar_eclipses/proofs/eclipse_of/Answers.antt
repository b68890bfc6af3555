-- `calendar_eclipses::eclipse_of` meets its contract: a month that is found is covered, so that its full moon has a day number.
use Rattle.std.proofs.Common.{sym}
use Rattle.answers.proofs.Answers.{handed_on_as}
use Rattle.calendar_eclipses.specs.Answers.{moon_and_grade}
use Rattle.calendar_eclipses.proofs.Steps.{eclipse_asked_lem, asked_covered}
use Rattle.calendar_eclipses.proofs.eclipse_of.Goals as goal

pub returns-in_err-found : goal.returns-in_err-found
returns-in_err-found c = rw (handed_on_as moon_and_grade _ _ c.from_residual.ensures.1, eclipse_asked_lem, ← c.in_err-found.ensures)

pub full_moon_at-moon-requires : goal.full_moon_at-moon-requires
full_moon_at-moon-requires c = asked_covered _ _ _ _ _ (sym c.in_ok-found.ensures)

pub returns : goal.returns
returns c = rw (eclipse_asked_lem, ← c.in_ok-found.ensures, c.grade_of.ensures, c.full_moon_at-moon.ensures)
