-- What `hours_of` promises leaves one answer.
use Rattle.answers.proofs.Answers.{one_told}
use Rattle.numbers.specs.OneResult.{OneResult}
use Rattle.numbers.proofs.OneResult.{one}
use Rattle.calendar_hours.proofs.hours_of.Reads as hours_of

pub one_hours_of : OneResult hours_of.Learnt
one_hours_of _ _ x y _ _ p q = one_told x y (one p q)
