-- The bits of the long months, one month after the other.
use mathlib.Core.Path.{◌≡◌, refl}
use mathlib.Core.Bool.{Bool, true, false}
use mathlib.Core.List.{List, [], ◌∷◌, ◌++◌, reverse}
use Prim.Native.Nat.{ℕ, zero, suc, ◌+◌, ◌*◌, ◌^◌, ◌<◌, ◌≤◌}
use native.Mathlib.Nat.{pow-succ'}
use native.Mathlib.Omega.{arith}
use Rattle.std.proofs.lemmas.List.{reverse-append, length-reverse}
use lib.ListN.{length}
use lib.Pow.{pow_mono, pow_pos}
use lib.Dec.{eqb}
use Rattle.numbers.specs.Places.{places}
use Rattle.calendar_year.specs.declared.Month.{Month}
use Rattle.calendar_year.specs.Years.{no_month}
use Rattle.record_fields.specs.Fields.{long_bit, long_months_of}

bit_small : (m : Month) → long_bit m ≤ 1
unfolding long_bit
bit_small m = by_test (eqb m.length 30)
  where
    by_test : (b : Bool) → elim b [ true ↦ 1 | false ↦ 0 ] ≤ 1
    by_test true = omega arith
    by_test false = omega arith

-- as many bits as months
bits_small : (ms : List Month) → long_months_of ms < 2 ^ length ms
unfolding long_months_of
bits_small [] = omega arith
bits_small (m ∷ ms) = rw (pow-succ' 2 (length ms)) (omega (arith, bit_small m, bits_small ms))

-- the bits of the months that came so far, from a year's last month back
abbrev pub BitsOf : List Month → ℕ → Type 0
BitsOf ms bits = bits ≡ long_months_of (reverse ms)

pub no_bits : BitsOf [] 0
unfolding long_months_of
no_bits = refl

pub small_before : (ms : List Month) (bits : ℕ) → BitsOf ms bits → length ms < 13 → bits < 32768
small_before ms bits told h = omega (arith, told, bits_small (reverse ms), length-reverse ms, pow_mono {i = length (reverse ms)} {j = 13} (omega (arith, h, length-reverse ms)))

pub one_more : (ms : List Month) (m : Month) (bits more : ℕ) → BitsOf ms bits → more ≡ long_bit m + 2 * bits → BitsOf (ms ++ m ∷ []) more
unfolding long_months_of
one_more ms m bits more told e = rw (reverse-append, ← told) e

-- no bit but those of a year's months is 1
pub unused_bits_0 : (month : ℕ → Month) (k count n : ℕ) → long_months_of (places no_month month k count n) < 2 ^ count
unfolding places long_months_of long_bit
unused_bits_0 month k count zero = pow_pos count
unused_bits_0 month k zero (suc n) = omega (arith, unused_bits_0 month k zero n)
unused_bits_0 month k (suc count) (suc n) = rw (pow-succ' 2 count) (omega (arith, bit_small (month k), unused_bits_0 month (k + 1) count n))
