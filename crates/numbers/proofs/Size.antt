-- How large a signed number can be, from what it is made of; a small one fits its word.
use mathlib.Core.Path.{◌≡◌, refl, ◌∙◌}
use Prim.Native.Nat.{ℕ, ◌+◌, ◌*◌, ◌<◌, ◌≤◌, ◌^◌}
use native.Mathlib.Nat.{mul-le-mul}
use native.Mathlib.Omega.{arith}
use lib.IntN.{ℤ, pos, nat_abs, ◌+ℤ◌, ◌*ℤ◌}
use lib.Signed.{◌≤ℤ◌}
use mir.Syntax.{w64}
use mir.Val.{to_z, of_z, SFits}
use mir.Facts.{to_z-of_z, to_z_pos}
use Rattle.std.proofs.lemmas.Int.{ints, unsigned_abs-mul}
use Rattle.numbers.specs.Sign.{minus}
use Rattle.numbers.specs.Between.{Between}

-- z lies from −n to n
pub record Small (z : ℤ) (n : ℕ) : Type 0 where
  pub size : nat_abs z ≤ n

pub small_pos : (n : ℕ) → Small (pos n) n
small_pos n = record { size = omega arith }

pub small_add : {x y : ℤ} {m n : ℕ} → Small x m → Small y n → Small (x +ℤ y) (m + n)
small_add s t = record { size = omega (arith, ints, s.size, t.size) }

pub small_mul : {z : ℤ} {m : ℕ} (k n : ℕ) → k ≤ n → Small z m → Small (z *ℤ pos k) (m * n)
small_mul {z} k n h s = record { size = rw (unsigned_abs-mul z (pos k)) (mul-le-mul s.size h) }

pub small_fits : {z : ℤ} {n : ℕ} → Small z n → n < 2 ^ 63 → SFits w64 z
small_fits s h = omega (arith, ints, s.size)

-- ---- what code works out of words of 64 bits

-- what is read of a number's word
abbrev pub word : ℤ → ℤ
word z = to_z w64 (of_z w64 z)

-- v, as the code has it, is z, which lies from −n to n
pub record Worked (v z : ℤ) (n : ℕ) : Type 0 where
  pub same : v ≡ z
  pub small : Small z n

pub worked_fits : {v z : ℤ} {n : ℕ} → Worked v z n → n < 2 ^ 63 → SFits w64 v
worked_fits w room = rw w.same (small_fits w.small room)

-- read back from its word it is the same
pub worked_word : {v z : ℤ} {n : ℕ} → Worked v z n → n < 2 ^ 63 → Worked (word v) z n
worked_word w room = record { same = to_z-of_z (worked_fits w room) ∙ w.same; small = w.small }

-- .. and so is what a contract tells, or what there was before
pub told_word : {v z : ℤ} {n : ℕ} → v ≡ z → Small z n → n < 2 ^ 63 → Worked (word v) z n
told_word e s room = worked_word (record { same = e; small = s }) room

pub small_word : (z : ℤ) {n : ℕ} → nat_abs z ≤ n → n < 2 ^ 63 → Worked (word z) z n
small_word z h room = told_word refl (record { size = h }) room

pub worked_pos : (k n : ℕ) → k ≤ n → n < 2 ^ 63 → Worked (to_z w64 k) (pos k) n
worked_pos k n h room = record { same = to_z_pos w64 (omega arith); small = record { size = omega arith } }

pub constant : (k : ℕ) → Worked (pos k) (pos k) k
constant k = record { same = refl; small = small_pos k }

pub worked_add : {v w y z : ℤ} {m n : ℕ} → Worked v y m → Worked w z n → Worked (v +ℤ w) (y +ℤ z) (m + n)
worked_add a b = record { same = rw (a.same, b.same); small = small_add a.small b.small }

pub worked_mul : {v w z : ℤ} {k m n : ℕ} → Worked v z m → Worked w (pos k) n → Worked (v *ℤ w) (z *ℤ pos k) (m * n)
worked_mul a b = record { same = rw (a.same, b.same); small = small_mul _ _ b.small.size a.small }

pub small_between : {z : ℤ} (a b : ℕ) → Between (minus a) z (pos b) → Small z (a + b)
small_between a b h = record { size = omega (arith, ints, h.from, h.to) }

-- .. and back
pub small_low : {z : ℤ} {n : ℕ} → Small z n → minus n ≤ℤ z
small_low s = omega (arith, ints, s.size)

pub small_high : {z : ℤ} {n : ℕ} → Small z n → z ≤ℤ pos n
small_high s = omega (arith, ints, s.size)
