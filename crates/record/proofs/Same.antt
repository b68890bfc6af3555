-- The test that two lists of numbers are the same.
use mathlib.Core.Path.{◌≡◌, refl, ap}
use mathlib.Core.Bool.{true, false, ◌&&◌}
use mathlib.Core.List.{List, [], ◌∷◌}
use Prim.Native.Nat.{ℕ}
use Rattle.std.specs.Cmp.Lexicographic.{pointwise}
use lib.Dec.{eqb}
use Rattle.numbers.specs.Same.{same_by}
use Rattle.numbers.proofs.Same.{Tells, tells_numbers, tells_lists, not_one}
use Rattle.record_fields.specs.Tagged.{same}

tells_same : Tells same
tells_same = tells_lists eqb tells_numbers

-- lists that are tested to be the same are one ..
pub same_one : (l m : List ℕ) → same l m ≡ true → l ≡ m
same_one = tells_same.one

-- .. one list is the same as itself ..
pub one_same : (l m : List ℕ) → l ≡ m → same l m ≡ true
one_same l m e = rw e (tells_same.itself m)

-- .. and two are not
pub not_same : (l m : List ℕ) → (l ≡ m → ⊥) → same l m ≡ false
not_same = not_one same tells_same

-- `==` at bytes is that test
pub pointwise_same : (l m : List ℕ) → pointwise eqb l m ≡ same l m
unfolding same_by
pointwise_same [] [] = refl
pointwise_same [] (y ∷ ys) = refl
pointwise_same (x ∷ xs) [] = refl
pointwise_same (x ∷ xs) (y ∷ ys) = ap (λ b. eqb x y && b) (pointwise_same xs ys)
