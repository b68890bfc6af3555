-- `calendar_hours::hours_of` meets its contract: a month that is found is covered, so that the times of its eclipse have day numbers.
use Rattle.std.proofs.Common.{sym}
use Rattle.answers.proofs.Answers.{handed_on}
use Rattle.calendar_eclipses.proofs.Steps.{asked_covered}
use Rattle.calendar_hours.proofs.Steps.{hours_asked, without_eclipse, with_eclipse, all_numbered}
use Rattle.calendar_hours.proofs.hours_of.Goals as goal

pub returns-in_err-found : goal.returns-in_err-found
returns-in_err-found c = rw (handed_on _ _ c.from_residual.ensures.1, hours_asked, ← c.in_err-found.ensures)

pub returns-in_default : goal.returns-in_default
returns-in_default c = rw (hours_asked, ← c.in_ok-found.ensures, without_eclipse _ (sym c.in_default.ensures))

pub hours_from-requires : goal.hours_from-requires
hours_from-requires c =
    rw (with_eclipse _ _ (sym c.in-Some.ensures)).1 at (all_numbered _ (asked_covered _ _ _ _ _ (sym c.in_ok-found.ensures)))

pub returns : goal.returns
returns c = rw (hours_asked, ← c.in_ok-found.ensures, (with_eclipse _ _ (sym c.in-Some.ensures)).0, c.hours_from.ensures)
