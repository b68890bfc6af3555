-- What each call promises leaves one answer, and one run in the memory that it was lent.
use Rattle.numbers.specs.OneResult.{OneResult, OneContent}
use Rattle.numbers.proofs.OneResult.{one}
use Rattle.bench_run.specs.Timed.{held_run}
use Rattle.bench_run.proofs.timed_date.Reads as timed_date
use Rattle.bench_run.proofs.timed_change.Reads as timed_change

pub one_timed_date : OneResult timed_date.Learnt
one_timed_date _ _ _ _ _ _ = one

pub one_timed_change : OneResult timed_change.Learnt
one_timed_change _ _ _ _ _ _ p q = one p.0 q.0

pub one_run_left : OneContent timed_change.Learnt (λ _ lent. held_run lent.1.0.now lent.1.1.0.now lent.1.1.1.0.now lent.1.1.1.1.0.now lent.1.1.1.1.1.0.now lent.1.1.1.1.1.1.0.now)
one_run_left _ _ _ _ _ _ p q = one p.1 q.1
