-- What each public function promises leaves one answer.
use Rattle.numbers.specs.OneResult.{OneResult}
use Rattle.numbers.proofs.OneResult.{one}
use Rattle.senmyo_hours.proofs.eclipse_at.Reads as eclipse_at

pub one_eclipse_at : OneResult eclipse_at.Learnt
one_eclipse_at _ _ _ _ _ _ = one
