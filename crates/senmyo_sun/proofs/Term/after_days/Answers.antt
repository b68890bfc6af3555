-- `senmyo_sun::Term::after_days` meets its contract: its numbers are small enough for their words, so that it is the definition's sum.
use Rattle.std.proofs.Common.{arith}
use Rattle.numbers.proofs.Size.{worked_fits, worked_word}
use Rattle.senmyo_sun.proofs.Sizes.{to_first, after}
use Rattle.senmyo_sun.proofs.Term.after_days.Goals as goal

pub overflow_add-result : goal.overflow_add-result
overflow_add-result c = worked_fits (to_first _ _ c.requires) (omega arith)

pub overflow_add-result-2 : goal.overflow_add-result-2
overflow_add-result-2 c = rw c.pairs_of-pairs.ensures (worked_fits (after _ _ c.requires) (omega arith))

pub returns : goal.returns
returns c = rw c.pairs_of-pairs.ensures (worked_word (after _ _ c.requires) (omega arith)).same
