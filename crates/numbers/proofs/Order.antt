-- What std's `ints` do not tell of signed numbers: a product keeps their order, and a natural told as a signed number is itself.
use mathlib.Core.Path.{◌≡◌, refl}
use Prim.Native.Nat.{ℕ, ◌+◌, ◌≤◌}
use native.Mathlib.Nat.{add-mul, mul-le-mul_right}
use native.Mathlib.Omega.{arith}
use borrow.Author.Differences.{up, down}
use lib.IntN.{ℤ, pos, negsuc, ◌*ℤ◌}
use lib.Signed.{◌≤ℤ◌}
use Rattle.std.proofs.lemmas.Int.{ints}
use Rattle.numbers.specs.Sign.{whole}

pub ≤ℤ-mul : {x y : ℤ} (n : ℕ) → x ≤ℤ y → (x *ℤ pos n) ≤ℤ (y *ℤ pos n)
≤ℤ-mul {x} {y} n h =
    let ordered : up x + down y ≤ up y + down x = omega (arith, ints) in
    omega (arith, ints, mul-le-mul_right n ordered, add-mul)

-- nothing is cut off a number that is not below zero, where it is told by a natural
pub whole_exact : (z : ℤ) → pos 0 ≤ℤ z → pos (whole z) ≡ z
whole_exact (pos n) h = refl
whole_exact (negsuc n) h = absurd h.le
