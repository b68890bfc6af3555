-- `calendar_moons::instant_of` meets its contract: the day and the part are those of the moment.
use Rattle.calendar_moons.specs.Instants.{instant_in}
use Rattle.calendar_moons.proofs.instant_of.Goals as goal

pub returns : goal.returns
unfolding instant_in
returns c = rw c.numbers.ensures at c.julian_date.ensures
