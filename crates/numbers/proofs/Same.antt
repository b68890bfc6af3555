-- The test that two lists are the same, of the whole lists and from a place on.
use mathlib.Core.Path.{◌≡◌, refl}
use mathlib.Core.Bool.{Bool, true, false, false≢true, and-eq-true_iff}
use mathlib.Core.List.{List, [], ◌∷◌}
use Prim.Native.Nat.{ℕ, ◌+◌, ◌<◌, ◌≤◌}
use native.Mathlib.Numerals.{add-one}
use lib.ListN.{length, get_or, drop, drop_of_length-le}
use lib.Seq.{drop-cons}
use lib.Dec.{eqb}
use borrow.Author.Tests.{eqb-true, eq-eqb}
use Rattle.numbers.specs.Same.{same_by}

-- a test tells what is one from what is not
pub record Tells {A : Type 0} (test : A → A → Bool) : Type 0 where
  pub one : (x y : A) → test x y ≡ true → x ≡ y
  pub itself : (x : A) → test x x ≡ true

pub tells_numbers : Tells eqb
tells_numbers = record { one = eqb-true; itself = λ n. eq-eqb n n refl }

-- what is not one is told so
pub not_one : {A : Type 0} (test : A → A → Bool) → Tells test → (x y : A) → (x ≡ y → ⊥) → test x y ≡ false
not_one test tells x y differ = by_test (test x y) refl
  where
    by_test : (b : Bool) → test x y ≡ b → test x y ≡ false
    by_test true e = absurd (differ (tells.one x y e))
    by_test false e = e

module _ {A : Type 0} (test : A → A → Bool) (tells : Tells test) where
  -- lists that are tested to be the same are one ..
  same_one : (l m : List A) → same_by test l m ≡ true → l ≡ m
  unfolding same_by
  same_one [] [] h = refl
  same_one [] (y ∷ ys) h = absurd (false≢true h)
  same_one (x ∷ xs) [] h = absurd (false≢true h)
  same_one (x ∷ xs) (y ∷ ys) h =
      let (head, rest) = (and-eq-true_iff (test x y) (same_by test xs ys)).0 h in
      rw (tells.one x y head, same_one xs ys rest)

  -- .. and a list is the same as itself
  itself : (l : List A) → same_by test l l ≡ true
  unfolding same_by
  itself [] = refl
  itself (x ∷ xs) = rw (tells.itself x, itself xs)

  -- so that a test of what stands in lists makes one of lists
  pub tells_lists : Tells (same_by test)
  tells_lists = record { one = same_one; itself = itself }

-- ---- from a place on

module _ {A : Type 0} (test : A → A → Bool) (l m : List A) (place : ℕ) (d e : A) (in_l : place < length l) (in_m : place < length m) where
  -- they are the same if they are so at the place and behind it ..
  pub same_on : test (get_or l place d) (get_or m place e) ≡ true → same_by test (drop place l) (drop place m) ≡ same_by test (drop (place + 1) l) (drop (place + 1) m)
  unfolding same_by
  same_on h = rw (add-one place, drop-cons l place d in_l, drop-cons m place e in_m, h)

  -- .. and not if they are not so at the place
  pub not_same_on : test (get_or l place d) (get_or m place e) ≡ false → same_by test (drop place l) (drop place m) ≡ false
  unfolding same_by
  not_same_on h = rw (drop-cons l place d in_l, drop-cons m place e in_m, h)

-- nothing is the same as nothing
pub same_end : {A : Type 0} (test : A → A → Bool) (l m : List A) (place : ℕ) → length l ≤ place → length m ≤ place → same_by test (drop place l) (drop place m) ≡ true
unfolding same_by
same_end test l m place end_l end_m = rw (drop_of_length-le l {i = place} end_l, drop_of_length-le m {i = place} end_m)
