-- Before each turn the numbers of the places so far are written.
use Rattle.std.proofs.Common.{◌≡◌, take}
use lib.Seq.{sets}
use Rattle.sieveflicker_numbers.specs.Numbers.{places_numbers}
use Rattle.sieveflicker_numbers.proofs.put_places.Given as goal

abbrev pub invariant-loop-place : goal.invariant-loop-place
invariant-loop-place l = l.out ≡ sets l.initial.out 3 (places_numbers (take l.place l.months))
