-- `senmyo_moon::losing_row` meets its contract: the loss of row 7 under each half's sign, from the sum that its gain leads to.
use Rattle.std.proofs.Common.{◌≡◌, Bool, true, false, rules, ℤ, ◌+ℤ◌}
use Rattle.numbers.specs.Sign.{minus}
use Rattle.numbers.proofs.Size.{word}
use Rattle.senmyo_moon.specs.Moon.{upper_rows, lower_rows, gaining_in7, signed}
use Rattle.senmyo_moon.specs.Room.{stand_in, stand_on, first_row}
use Rattle.senmyo_moon.proofs.losing_row.Goals.{then-upper, else-upper}
use Rattle.senmyo_moon.proofs.losing_row.Goals as goal

-- the loss, and what row 7's sum and gain come to
lost : (upper : Bool) (loss : ℤ) → loss ≡ signed upper (minus 7) →
    (loss, word (word (first_row upper 6).1 +ℤ word (first_row upper 6).0)) ≡ (stand_on upper 6 gaining_in7).row
unfolding upper_rows lower_rows stand_in
lost true loss e = rw e
lost false loss e = rw e

pub overflow_add-result : goal.overflow_add-result
unfolding upper_rows lower_rows stand_in
overflow_add-result c =
    elim c.if-upper.branch [
      | then-upper w ↦ rw (c.row_of-gain.ensures, w.if-upper.true) (search rules)
      | else-upper w ↦ rw (c.row_of-gain.ensures, w.if-upper.false) (search rules)
    ]

pub returns : goal.returns
returns c =
    elim c.if-upper.branch [
      | then-upper w ↦ rw c.row_of-gain.ensures (lost c.args.upper _ (rw w.if-upper.true w.loss-is))
      | else-upper w ↦ rw c.row_of-gain.ensures (lost c.args.upper _ (rw w.if-upper.false w.loss-is))
    ]
