-- What each public function promises leaves one answer.
use Rattle.numbers.specs.OneResult.{OneResult}
use Rattle.numbers.proofs.OneResult.{one}
use Rattle.senmyo_sun.proofs.sun_of.Reads as sun_of

pub one_sun_of : OneResult sun_of.Learnt
one_sun_of _ _ _ _ _ _ = one
