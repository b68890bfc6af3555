-- What each public function promises leaves one answer.
use Rattle.numbers.specs.OneResult.{OneResult}
use Rattle.numbers.proofs.OneResult.{one}
use Rattle.answers.proofs.Answers.{one_told}
use Rattle.run_lookup.proofs.KeptRun.date_of.Reads as date_of
use Rattle.run_lookup.proofs.KeptRun.day_of.Reads as day_of

pub one_date_in_run : OneResult date_of.Learnt
one_date_in_run _ _ x y _ _ p q = one_told x y (one p q)

pub one_day_in_run : OneResult day_of.Learnt
one_day_in_run _ _ x y _ _ p q = one_told x y (one p q)
