-- `senmyo_sun::Term::on_day` meets its contract: its numbers are small enough for their words, so that it is the definition's sum.
use Rattle.std.proofs.Common.{arith}
use Rattle.numbers.proofs.Size.{worked_word}
use Rattle.senmyo_sun.proofs.Sizes.{day}
use Rattle.senmyo_sun.proofs.Term.on_day.Goals as goal

pub returns : goal.returns
returns c = (worked_word (day _ _ c.requires) (omega arith)).same
