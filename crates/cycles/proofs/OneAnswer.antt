-- What each public function promises leaves one answer.
use Rattle.numbers.specs.OneResult.{OneResult}
use Rattle.numbers.proofs.OneResult.{one}
use Rattle.cycles.proofs.Cycle.moment_of.Reads as moment_of
use Rattle.cycles.proofs.Cycle.day_of.Reads as day_of
use Rattle.cycles.proofs.Cycle.last_by.Reads as last_by

pub one_moment_of : OneResult moment_of.Learnt
one_moment_of _ _ _ _ _ _ = one

pub one_day_of : OneResult day_of.Learnt
one_day_of _ _ _ _ _ _ = one

pub one_last_by : OneResult last_by.Learnt
one_last_by _ _ _ _ _ _ = one
