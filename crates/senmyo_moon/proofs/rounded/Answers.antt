-- `senmyo_moon::rounded` meets its contract: its numbers are small enough for their words.
use Rattle.std.proofs.Common.{◌+◌, ◌*◌, arith, rules, w64, pos, ◌+ℤ◌, ◌*ℤ◌, to_z}
use Rattle.numbers.proofs.Size.{word, Worked, worked_fits, worked_word, small_word, worked_pos, worked_add, worked_mul}
use Rattle.senmyo_moon.specs.declared.HalfSecond.{HalfSecond}
use Rattle.senmyo_moon.specs.declared.SignedRow.{SignedRow}
use Rattle.senmyo_moon.specs.Moon.{day_half_seconds}
use Rattle.senmyo_moon.specs.Room.{RoundableRow}
use Rattle.senmyo_moon.proofs.rounded.Goals as goal

-- what the code works out
module _ (row : SignedRow) (over length : HalfSecond) (h : RoundableRow row over length) where
  whole : Worked (word row.1 *ℤ to_z w64 length.0) (row.1 *ℤ pos length.0) (5000 * day_half_seconds.0)
  whole =
      worked_mul (small_word row.1 {n = 5000} (omega arith) (omega arith))
      (worked_pos length.0 day_half_seconds.0 h.length_small (omega arith))

  part : Worked (word row.0 *ℤ to_z w64 over.0) (row.0 *ℤ pos over.0) (5000 * day_half_seconds.0)
  part =
      worked_mul (small_word row.0 {n = 5000} (omega arith) (omega arith))
      (worked_pos over.0 day_half_seconds.0 h.over_small (omega arith))

  total : Worked (word (word row.1 *ℤ to_z w64 length.0) +ℤ word (word row.0 *ℤ to_z w64 over.0)) (row.1 *ℤ pos length.0 +ℤ row.0 *ℤ pos over.0) (5000 * day_half_seconds.0 + 5000 * day_half_seconds.0)
  total = worked_add (worked_word whole (omega arith)) (worked_word part (omega arith))

pub overflow_add-numerator : goal.overflow_add-numerator
overflow_add-numerator c = worked_fits (total _ _ _ c.requires) (omega arith)

pub nearest_of-requires : goal.nearest_of-requires
nearest_of-requires c =
    let w = total _ _ _ c.requires in
    rw (worked_word w (omega arith)).same (omega (arith, w.small.size))

pub returns : goal.returns
returns c =
    let w = total _ _ _ c.requires in
    let told = rw (worked_word w (omega arith)).same at c.nearest_of.ensures in
    search rules
