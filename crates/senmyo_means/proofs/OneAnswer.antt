-- What each public function promises leaves one answer.
use Rattle.numbers.specs.OneResult.{OneResult}
use Rattle.numbers.proofs.OneResult.{one}
use Rattle.senmyo_means.proofs.mean_new_moon.Reads as mean_new_moon
use Rattle.senmyo_means.proofs.mean_full_moon.Reads as mean_full_moon

pub one_mean_new_moon : OneResult mean_new_moon.Learnt
one_mean_new_moon _ _ _ _ _ _ = one

pub one_mean_full_moon : OneResult mean_full_moon.Learnt
one_mean_full_moon _ _ _ _ _ _ = one
