-- What each public function promises leaves one answer.
use Rattle.answers.proofs.Answers.{one_told}
use Rattle.numbers.specs.OneResult.{OneResult}
use Rattle.numbers.proofs.OneResult.{one}
use Rattle.calendar_month.proofs.asked_moon.Reads as asked_moon
use Rattle.calendar_month.proofs.asked_month.Reads as asked_month

pub one_asked_moon : OneResult asked_moon.Learnt
one_asked_moon _ _ x y _ _ p q = one_told x y (one p q)

pub one_asked_month : OneResult asked_month.Learnt
one_asked_month _ _ x y _ _ p q = one_told x y (one p q)
