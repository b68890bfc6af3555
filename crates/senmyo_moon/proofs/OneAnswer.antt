-- What each public function promises leaves one answer.
use Rattle.numbers.specs.OneResult.{OneResult}
use Rattle.numbers.proofs.OneResult.{one}
use Rattle.senmyo_moon.proofs.moon_of.Reads as moon_of
use Rattle.senmyo_moon.proofs.change_of.Reads as change_of

pub one_moon_of : OneResult moon_of.Learnt
one_moon_of _ _ _ _ _ _ = one

pub one_change_of : OneResult change_of.Learnt
one_change_of _ _ _ _ _ _ = one
