-- What each public function promises leaves one answer.
use Rattle.answers.proofs.Answers.{one_told}
use Rattle.numbers.specs.OneResult.{OneResult}
use Rattle.numbers.proofs.OneResult.{one}
use Rattle.calendar_moons.proofs.new_moon_of.Reads as new_moon_of
use Rattle.calendar_moons.proofs.full_moon_of.Reads as full_moon_of
use Rattle.calendar_moons.proofs.moons_of.Reads as moons_of

pub one_new_moon_of : OneResult new_moon_of.Learnt
one_new_moon_of _ _ x y _ _ p q = one_told x y (one p q)

pub one_full_moon_of : OneResult full_moon_of.Learnt
one_full_moon_of _ _ x y _ _ p q = one_told x y (one p q)

pub one_moons_of : OneResult moons_of.Learnt
one_moons_of _ _ x y _ _ p q = one_told x y (one p q)
