-- What each public function promises leaves one answer, and one content of what it was lent.
use mathlib.Core.Path.{sym, ◌∙◌}
use Rattle.numbers.specs.OneResult.{OneResult, OneContent}
use Rattle.numbers.proofs.OneResult.{one}
use Rattle.answers.proofs.Answers.{one_told}
use Rattle.record.proofs.write_record.Reads as write_record
use Rattle.record.proofs.read_record.Reads as read_record

pub one_write_record : OneResult write_record.Learnt
one_write_record _ _ x y _ _ p q = one_told x y (p.0 ∙ sym q.0)

-- the buffer afterwards, every byte of it
pub one_buffer : OneContent write_record.Learnt (λ _ lent. lent.1.1.0.now)
one_buffer _ _ _ _ _ _ p q = one p.1 q.1

pub one_read_record : OneResult read_record.Learnt
one_read_record _ _ x y _ _ p q = one_told x y (p ∙ sym q)
