-- What the public function promises leaves one answer.
use Rattle.numbers.specs.OneResult.{OneResult}
use Rattle.numbers.proofs.OneResult.{one}
use Rattle.run_examination.proofs.is_run.Reads as is_run

pub one_is_run : OneResult is_run.Learnt
one_is_run _ _ _ _ _ _ = one
