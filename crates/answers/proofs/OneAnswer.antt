-- What each public function promises leaves one answer.
use Rattle.numbers.specs.OneResult.{OneResult}
use Rattle.numbers.proofs.OneResult.{one}
use Rattle.answers.proofs.Refusal.number.Reads as number

pub one_number_of : OneResult number.Learnt
one_number_of _ _ _ _ _ _ = one
