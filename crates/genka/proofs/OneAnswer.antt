-- What each public function promises leaves one answer.
use Rattle.numbers.specs.OneResult.{OneResult}
use Rattle.numbers.proofs.OneResult.{one}
use Rattle.genka.proofs.new_moon.Reads as new_moon
use Rattle.genka.proofs.part_to_half_parts.Reads as part_to_half_parts
use Rattle.genka.proofs.full_moon.Reads as full_moon

pub one_new_moon : OneResult new_moon.Learnt
one_new_moon _ _ _ _ _ _ = one

pub one_part_to_half_parts : OneResult part_to_half_parts.Learnt
one_part_to_half_parts _ _ _ _ _ _ = one

pub one_full_moon : OneResult full_moon.Learnt
one_full_moon _ _ _ _ _ _ = one
