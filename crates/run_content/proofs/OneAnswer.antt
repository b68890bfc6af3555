-- What each public function promises leaves one answer, and one content of what it was lent.
use Rattle.numbers.specs.OneResult.{OneResult, OneContent}
use Rattle.numbers.proofs.OneResult.{one}
use Rattle.run_content.proofs.empty_run.Reads as empty_run
use Rattle.run_content.proofs.RunDefault.default.Reads as default_run
use Rattle.run_content.proofs.with_next.Reads as with_next
use Rattle.run_content.proofs.run_of.Reads as run_of
use Rattle.run_content.proofs.without_oldest.Reads as without_oldest

pub one_empty_run : OneResult empty_run.Learnt
one_empty_run _ _ _ _ _ _ = one

pub one_default : OneResult default_run.Learnt
one_default _ _ _ _ _ _ = one

pub one_with_next : OneContent with_next.Learnt (λ _ lent. lent.0.now)
one_with_next _ _ _ _ _ _ = one

pub one_run_of : OneResult run_of.Learnt
one_run_of _ _ _ _ _ _ = one

pub one_without_oldest : OneContent without_oldest.Learnt (λ _ lent. lent.0.now)
one_without_oldest _ _ _ _ _ _ = one
