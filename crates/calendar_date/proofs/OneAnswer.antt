-- What each public function promises leaves one answer.
use Rattle.answers.proofs.Answers.{one_told}
use Rattle.numbers.specs.OneResult.{OneResult}
use Rattle.numbers.proofs.OneResult.{one}
use Rattle.calendar_date.proofs.day_of.Reads as day_of
use Rattle.calendar_date.proofs.date_of.Reads as date_of
use Rattle.calendar_date.proofs.cycle_of.Reads as cycle_of
use Rattle.calendar_date.proofs.date_number.Reads as date_number_lem

pub one_day_of : OneResult day_of.Learnt
one_day_of _ _ x y _ _ p q = one_told x y (one p q)

pub one_date_of : OneResult date_of.Learnt
one_date_of _ _ x y _ _ p q = one_told x y (one p q)

pub one_cycle_of : OneResult cycle_of.Learnt
one_cycle_of _ _ _ _ _ _ = one

pub one_date_number : OneResult date_number_lem.Learnt
one_date_number _ _ _ _ _ _ = one
