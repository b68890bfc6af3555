-- `year_line::number_of` meets its contract: it refuses too few and too many bytes and the first that is no digit, and of the digits that the loop has passed
-- it keeps the value.
use Rattle.std.proofs.Common.{◌≡◌, get_or, arith, true, false}
use Rattle.year_line.specs.Line.{is_digit}
use Rattle.year_line.proofs.Passed.{all_passed, no_digit, room, one_more}
use Rattle.year_line.proofs.number_of.Goals as goal

pub returns-then-not-is_ascii_digit : goal.returns-then-not-is_ascii_digit
returns-then-not-is_ascii_digit c =
    let other : is_digit (get_or c.args.bytes.now c.loop-byte.byte-index 0) ≡ false = grind arith in
    no_digit _ _ _ c.loop-byte.invariant c.loop-byte-test.true other

pub overflow_mul-value : goal.overflow_mul-value
overflow_mul-value c =
    let digit : is_digit (get_or c.args.bytes.now c.loop-byte.byte-index 0) ≡ true = cc in
    omega (arith, (room _ _ _ c.loop-byte.invariant c.loop-byte-test.true (grind arith) digit).small)

pub overflow_add-value : goal.overflow_add-value
overflow_add-value c =
    let digit : is_digit (get_or c.args.bytes.now c.loop-byte.byte-index 0) ≡ true = cc in
    let h = room _ _ _ c.loop-byte.invariant c.loop-byte-test.true (grind arith) digit in
    omega (arith, h.small, h.to)

pub loop-byte-preserved : goal.loop-byte-preserved
loop-byte-preserved c =
    let digit : is_digit (get_or c.args.bytes.now c.loop-byte.byte-index 0) ≡ true = cc in
    rw c.from.ensures (one_more _ _ _ c.loop-byte.invariant c.loop-byte-test.true (room _ _ _ c.loop-byte.invariant c.loop-byte-test.true (grind arith) digit))

pub returns : goal.returns
returns c = all_passed _ _ _ c.loop-byte.invariant (grind arith) (grind arith) c.loop-byte-test.false
