-- `cycles::Cycle::last_by` meets its contract: what has stood by the end of a day has stood before the first unit of the next.
use Rattle.std.proofs.Common.{ap}
use Rattle.cycles.specs.Cycles.{dated}
use Rattle.cycles.proofs.CycleLaws.{last_is}
use Rattle.cycles.proofs.Cycle.last_by.Goals as goal

pub returns : goal.returns
returns c = rw c.day_of-day.ensures (ap (dated _) (last_is _ c.requires c.args.day))
