use Rattle.year_line.proofs.Passed.{Passed}
use Rattle.year_line.proofs.number_of.Given as goal

-- the bytes that are passed are digits of the value so far
abbrev pub invariant-loop-byte : goal.invariant-loop-byte
invariant-loop-byte l = Passed l.bytes l.value l.byte-index
