-- `sieveflicker_numbers::put_places` meets its contract: before each turn the numbers of the places so far are written.
use Rattle.std.proofs.Common.{refl, ap, ◌∙◌, ◌+◌, ◌*◌}
use lib.Seq.{sets}
use Rattle.sieveflicker_numbers.specs.Numbers.{places_numbers}
use Rattle.sieveflicker_numbers.proofs.Memory.{next_place}
use Rattle.sieveflicker_numbers.proofs.put_places.Goals as goal

pub loop-place-init : goal.loop-place-init
unfolding places_numbers
loop-place-init c = refl

pub loop-place-preserved : goal.loop-place-preserved
loop-place-preserved c =
    next_place _ _ _ _ c.loop-place.place _ c.loop-place-test.true refl c.loop-place.invariant
    (c.put.ensures ∙ ap (sets c.loop-place.out (3 + 4 * c.loop-place.place)) c.month_numbers.ensures)
