-- Places are filled one after the other, each holds its thing, and those that are not used hold none.
use mathlib.Core.Path.{◌≡◌, refl, sym, ap, ◌∙◌}
use mathlib.Core.List.{List, ◌∷◌}
use Prim.Native.Nat.{ℕ, zero, suc, ◌+◌, ◌<◌, ◌≤◌}
use native.Mathlib.Numerals.{add-one}
use native.Mathlib.Omega.{arith}
use lib.ListN.{length, get_or, set, replicate}
use Rattle.numbers.specs.Places.{places}

module _ {A : Type 0} (unused : A) (thing : ℕ → A) where
  -- nothing yet
  pub none_placed : (k n : ℕ) → places unused thing k 0 n ≡ replicate n unused
  unfolding places
  none_placed k zero = refl
  none_placed k (suc n) = rw (none_placed k n)

  -- as many places as were asked for
  pub length_places : (k count n : ℕ) → length (places unused thing k count n) ≡ n
  unfolding places
  length_places k count zero = refl
  length_places k zero (suc n) = ap suc (length_places k zero n)
  length_places k (suc count) (suc n) = ap suc (length_places (k + 1) count n)

  -- one more goes to the next place
  pub placed : (k i n : ℕ) → i < n → set (places unused thing k i n) i (thing (k + i)) ≡ places unused thing k (i + 1) n
  unfolding places
  placed k i n h = rw (add-one i) (at_next k i n h)
    where
      at_next : (k i n : ℕ) → i < n → set (places unused thing k i n) i (thing (k + i)) ≡ places unused thing k (suc i) n
      at_next k i zero h = absurd (omega (arith, h))
      at_next k zero (suc n) h = let e : k + 0 ≡ k = omega arith in rw e (ap (λ l. thing k ∷ l) (none_placed k n ∙ sym (none_placed (k + 1) n)))
      at_next k (suc i) (suc n) h =
          let e : k + suc i ≡ k + 1 + i = omega arith in
          rw e (ap (λ l. thing k ∷ l) (at_next (k + 1) i n (omega (arith, h))))

  -- what stands at a place
  pub at_place : (k count n i : ℕ) (d : A) → i < count → count ≤ n → get_or (places unused thing k count n) i d ≡ thing (k + i)
  unfolding places
  at_place k zero n i d h all = absurd (omega (arith, h))
  at_place k (suc count) zero i d h all = absurd (omega (arith, all))
  at_place k (suc count) (suc n) zero d h all = let e : k + 0 ≡ k = omega arith in rw e
  at_place k (suc count) (suc n) (suc i) d h all =
      let e : k + suc i ≡ k + 1 + i = omega arith in
      rw e (at_place (k + 1) count n i d (omega (arith, h)) (omega (arith, all)))

  -- .. and past the last thing
  pub unused_place : (k count n i : ℕ) (d : A) → count ≤ i → i < n → get_or (places unused thing k count n) i d ≡ unused
  unfolding places
  unused_place k count zero i d h inside = absurd (omega (arith, inside))
  unused_place k zero (suc n) zero d h inside = refl
  unused_place k zero (suc n) (suc i) d h inside = unused_place k zero n i d (omega arith) (omega (arith, inside))
  unused_place k (suc count) (suc n) zero d h inside = absurd (omega (arith, h))
  unused_place k (suc count) (suc n) (suc i) d h inside = unused_place (k + 1) count n i d (omega (arith, h)) (omega (arith, inside))

  -- one more thing put down at the next place, told by what is put there
  pub put_down : (k i n : ℕ) (l : List A) (x : A) → i < n → l ≡ places unused thing k i n → x ≡ thing (k + i) → set l i x ≡ places unused thing k (i + 1) n
  put_down k i n l x h e f = rw (e, f) (placed k i n h)
