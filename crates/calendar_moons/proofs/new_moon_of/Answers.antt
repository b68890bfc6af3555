-- `calendar_moons::new_moon_of` meets its contract: a month that is found is covered, so that its new moon has a Julian date.
use Rattle.std.proofs.Common.{sym}
use Rattle.answers.proofs.Answers.{handed_on}
use Rattle.calendar_month.proofs.Covered.{asked_moon_covered}
use Rattle.calendar_moons.specs.Instants.{new_moon_of}
use Rattle.calendar_moons.specs.Room.{New}
use Rattle.calendar_moons.proofs.Steps.{of_asked}
use Rattle.calendar_moons.proofs.Moments.{moon_dated}
use Rattle.calendar_moons.proofs.new_moon_of.Goals as goal

pub returns-in_err-calendar : goal.returns-in_err-calendar
unfolding new_moon_of
returns-in_err-calendar c = rw (handed_on _ _ c.from_residual.ensures.1, of_asked, ← c.in_err-calendar.ensures)

pub instant_of-requires : goal.instant_of-requires
instant_of-requires c = rw c.new_moon.ensures (moon_dated _ _ (asked_moon_covered _ _ _ _ _ (sym c.in_ok-calendar.ensures)) New)

pub returns : goal.returns
unfolding new_moon_of
returns c = rw (of_asked, ← c.in_ok-calendar.ensures, ← c.new_moon.ensures, ← c.instant_of.ensures)
