-- `calendar_moons::moons_of` meets its contract: a month that is found is covered, so that both its moons have Julian dates.
use Rattle.std.proofs.Common.{sym}
use Rattle.answers.proofs.Answers.{handed_on}
use Rattle.calendar_month.proofs.Covered.{asked_moon_covered}
use Rattle.calendar_moons.specs.Instants.{moons_of}
use Rattle.calendar_moons.specs.Room.{New, Full}
use Rattle.calendar_moons.proofs.Steps.{of_asked}
use Rattle.calendar_moons.proofs.Moments.{moon_dated}
use Rattle.calendar_moons.proofs.moons_of.Goals as goal

pub returns-in_err-calendar : goal.returns-in_err-calendar
unfolding moons_of
returns-in_err-calendar c = rw (handed_on _ _ c.from_residual.ensures.1, of_asked, ← c.in_err-calendar.ensures)

pub instant_of-requires : goal.instant_of-requires
instant_of-requires c = rw c.new_moon.ensures (moon_dated _ _ (asked_moon_covered _ _ _ _ _ (sym c.in_ok-calendar.ensures)) New)

pub instant_of-requires-2 : goal.instant_of-requires-2
instant_of-requires-2 c = rw c.full_moon.ensures (moon_dated _ _ (asked_moon_covered _ _ _ _ _ (sym c.in_ok-calendar.ensures)) Full)

pub returns : goal.returns
unfolding moons_of
returns c =
    let new = rw c.new_moon.ensures at c.instant_of.ensures in
    let full = rw c.full_moon.ensures at c.instant_of-2.ensures in
    rw (of_asked, ← c.in_ok-calendar.ensures, new, full)
