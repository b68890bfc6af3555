-- What each public function promises leaves one answer, and one run in the memory that it was lent.
use Rattle.answers.proofs.Answers.{one_told}
use Rattle.numbers.specs.OneResult.{OneResult, OneContent}
use Rattle.numbers.proofs.OneResult.{one}
use Rattle.run.proofs.open_run.Reads as open_run
use Rattle.run.proofs.extend_run.Reads as extend_run
use Rattle.run.proofs.drop_oldest.Reads as drop_oldest
use Rattle.run.proofs.run_date_of.Reads as run_date_of
use Rattle.run.proofs.run_day_of.Reads as run_day_of

pub one_open_run : OneResult open_run.Learnt
one_open_run _ _ x y _ _ p q = one_told x y (one p.0 q.0)

pub one_extend_run : OneResult extend_run.Learnt
one_extend_run _ _ x y _ _ p q = one_told x y (one p.0 q.0)

pub one_extend_run_left : OneContent extend_run.Learnt (λ _ lent. lent.0.now)
one_extend_run_left _ _ _ _ _ _ p q = one p.1 q.1

pub one_drop_oldest : OneResult drop_oldest.Learnt
one_drop_oldest _ _ x y _ _ p q = one_told x y (one p.0 q.0)

pub one_drop_oldest_left : OneContent drop_oldest.Learnt (λ _ lent. lent.0.now)
one_drop_oldest_left _ _ _ _ _ _ p q = one p.1 q.1

pub one_run_date_of : OneResult run_date_of.Learnt
one_run_date_of _ _ x y _ _ p q = one_told x y (one p q)

pub one_run_day_of : OneResult run_day_of.Learnt
one_run_day_of _ _ x y _ _ p q = one_told x y (one p q)
