-- What each public function promises leaves one answer.
use Rattle.numbers.specs.OneResult.{OneResult}
use Rattle.numbers.proofs.OneResult.{one}
use Rattle.julian.proofs.julian_date.Reads as julian_date

pub one_julian_date : OneResult julian_date.Learnt
one_julian_date _ _ _ _ _ _ = one
