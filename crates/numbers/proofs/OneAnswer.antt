-- What each public function promises leaves one answer.
use Rattle.numbers.specs.OneResult.{OneResult}
use Rattle.numbers.proofs.OneResult.{one}
use Rattle.numbers.proofs.floor_of.Reads as floor_of
use Rattle.numbers.proofs.nearest_of.Reads as nearest_of

pub one_floor_of : OneResult floor_of.Learnt
one_floor_of _ _ _ _ _ _ = one

pub one_nearest_of : OneResult nearest_of.Learnt
one_nearest_of _ _ _ _ _ _ = one
