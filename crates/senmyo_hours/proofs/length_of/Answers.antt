-- `senmyo_hours::length_of` meets its contract: the product fits its word, and what it adds leaves a natural.
use Rattle.std.proofs.Common.{◌≡◌, ap, ℕ, ◌+◌, ◌≤◌, arith, w64, ℤ, pos, ◌+ℤ◌, ◌*ℤ◌, to_z, nat_abs}
use Rattle.std.proofs.lemmas.Int.{ints}
use lib.Signed.{◌≤ℤ◌, yes_non_neg, pos-nat_abs}
use Rattle.numbers.specs.Sign.{whole}
use Rattle.numbers.specs.Rounding.{nearest}
use Rattle.numbers.proofs.Size.{Small, small_between, word, Worked, worked_word, told_word, small_word, worked_pos, worked_mul}
use Rattle.units.specs.Units.{fen, day_fen}
use Rattle.senmyo_hours.specs.Hours.{mean_length, length_of}
use Rattle.senmyo_hours.proofs.HourLaws.{share_between, length_above}
use Rattle.senmyo_hours.proofs.length_of.Goals as goal

module _ (parts : ℕ) (change : ℤ) (few : parts ≤ 15) (slow : nat_abs change ≤ 5000) where
  in_day : Small change day_fen
  in_day = record { size = omega (arith, slow) }

  above : pos 0 ≤ℤ (pos (mean_length parts) +ℤ nearest (change *ℤ pos (mean_length parts)) day_fen)
  above = length_above parts change in_day

  -- what it adds, or takes off
  share : {more : ℤ} → more ≡ nearest (word (word change *ℤ to_z w64 (mean_length parts))) day_fen →
      Worked (word more) (nearest (change *ℤ pos (mean_length parts)) day_fen) (1680 + 1680)
  share e =
      let mean = mean_length parts in
      let product = worked_mul (small_word change slow (omega arith)) (worked_pos mean 1680 (omega (arith, few)) (omega arith)) in
      let told = rw (worked_word product (omega arith)).same at e in
      let small = small_between mean mean (share_between mean in_day) in
      told_word told (record { size = omega (arith, small.size, few) }) (omega arith)

pub strict_add_signed-requires : goal.strict_add_signed-requires
strict_add_signed-requires c =
    let at = c.args in
    let more = share at.parts at.change c.requires.parts_bound c.requires.change_bound c.nearest_of-more.ensures in
    rw more.same (above at.parts at.change c.requires.parts_bound c.requires.change_bound, omega (arith, ints, more.small.size, c.requires.parts_bound))

pub returns : goal.returns
unfolding length_of
returns c =
    let at = c.args in
    let more = share at.parts at.change c.requires.parts_bound c.requires.change_bound c.nearest_of-more.ensures in
    let mean = mean_length at.parts in
    rw (c.strict_add_signed.ensures, more.same)
    (ap (λ z. fen (whole z)) {y = pos mean +ℤ nearest (at.change *ℤ pos mean) day_fen} (pos-nat_abs _ (yes_non_neg (above at.parts at.change c.requires.parts_bound c.requires.change_bound))))
