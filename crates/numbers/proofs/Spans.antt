-- Of spans that begin one after the other from 0 on, exactly one holds a number.
use mathlib.Core.Path.{◌≡◌, refl}
use mathlib.Core.Bool.{Bool, true, false}
use Prim.Native.Nat.{ℕ, zero, suc, ◌+◌, ◌-◌, ◌*◌, ◌<◌, ◌≤◌}
use native.Mathlib.Nat.{mul-zero, mul-suc}
use native.Mathlib.Numerals.{add-one}
use native.Mathlib.Omega.{arith}
use borrow.Author.Tests.{ltb-true, ltb-false, leb-true, leb-false}
use lib.Dec.{leb, ltb}
use Rattle.numbers.specs.Spans.{Holds, Takes, last_begun, span_of}

pub record Growing (f : ℕ → ℕ) : Type 0 where
  pub zeroth : f 0 ≡ 0
  pub grows : (n : ℕ) → f n < f (n + 1)

-- n spans that take a to b each take a × n to b × n
pub record Together (f : ℕ → ℕ) (a b k n : ℕ) : Type 0 where
  pub at_least : f k + a * n ≤ f (k + n)
  pub at_most : f (k + n) ≤ f k + b * n

pub together : (f : ℕ → ℕ) (a b k n : ℕ) → ((i : ℕ) → k ≤ i → i < k + n → Takes f i a b) → Together f a b k n
together f a b k zero t =
    let e : k + 0 ≡ k = omega arith in
    record { at_least = rw (e, mul-zero) (omega arith); at_most = rw (e, mul-zero) (omega arith) }
together f a b k (suc n) t =
    let e : k + suc n ≡ (k + n) + 1 = omega arith in
    let before = together f a b k n (λ i low high. t i low (omega (arith, high))) in
    let last = t (k + n) (omega arith) (omega arith) in
    record { at_least = rw (e, mul-suc) (omega (arith, before, last)); at_most = rw (e, mul-suc) (omega (arith, before, last)) }

-- lastBegun finds the span that holds d among the spans 0 to n, if it is there
pub found : (f : ℕ → ℕ) (d n : ℕ) → f 0 ≤ d → d < f (n + 1) → Holds f (last_begun f d n) d
unfolding last_begun
found f d zero low high = record { from = low; to = high }
found f d (suc n) low high = by_begin (leb (f (suc n)) d) refl (λ not_begun. found f d n low (rw add-one not_begun))
  where
    by_begin : (b : Bool) → leb (f (suc n)) d ≡ b → (d < f (suc n) → Holds f (last_begun f d n) d) → Holds f (last_begun f d (suc n)) d
    by_begin true e earlier = rw (e, last_begun) (record { from = leb-true _ _ e; to = high })
    by_begin false e earlier = rw (e, last_begun) (earlier (leb-false _ _ e))

-- it looks no further than span n
pub begun_to : (f : ℕ → ℕ) (d n : ℕ) → last_begun f d n ≤ n
unfolding last_begun
begun_to f d zero = omega arith
begun_to f d (suc n) = by_begin (leb (f (suc n)) d) refl (begun_to f d n)
  where
    by_begin : (b : Bool) → leb (f (suc n)) d ≡ b → last_begun f d n ≤ n → last_begun f d (suc n) ≤ suc n
    by_begin true e h = rw (e, last_begun) (omega arith)
    by_begin false e h = rw (e, last_begun) (omega (arith, h))

module _ (f : ℕ → ℕ) (g : Growing f) where
  -- m spans take at least m
  spans_take : (n m : ℕ) → f n + m ≤ f (n + m)
  spans_take n zero = let e : n + 0 ≡ n = omega arith in rw e (omega arith)
  spans_take n (suc m) =
      let e : n + suc m ≡ (n + m) + 1 = omega arith in
      rw e (omega (arith, spans_take n m, g.grows (n + m)))

  -- a later span begins later
  pub later : (n m : ℕ) → n ≤ m → f n + (m - n) ≤ f m
  later n m h =
      let e : n + (m - n) ≡ m = omega arith in
      rw e at (spans_take n (m - n))

  -- what begins by d is no later than the span that holds d
  pub not_after : (n k d : ℕ) → f n ≤ d → d < f (k + 1) → n ≤ k
  not_after n k d h t = by_order (ltb k n) refl
    where
      by_order : (b : Bool) → ltb k n ≡ b → n ≤ k
      by_order true e = absurd (omega (arith, h, t, later (k + 1) n (omega (arith, ltb-true k n e))))
      by_order false e = ltb-false k n e

  pub one_span : (n m d : ℕ) → Holds f n d → Holds f m d → n ≡ m
  one_span n m d h k = omega (arith, not_after n m d h.from k.to, not_after m n d k.from h.to)

  -- a span holds d ..
  pub span_holds : (d : ℕ) → Holds f (span_of f d) d
  unfolding span_of
  span_holds d = found f d d (omega (arith, g.zeroth)) (omega (arith, later 0 (d + 1) (omega arith)))

  -- .. and no other
  pub span_is : (n d : ℕ) → Holds f n d → span_of f d ≡ n
  span_is n d h = one_span (span_of f d) n d (span_holds d) h

  -- the bounds of the span that holds d
  pub span_from : (n d : ℕ) → f n ≤ d → n ≤ span_of f d
  span_from n d h = not_after n (span_of f d) d h (span_holds d).to

  pub span_to : (n d : ℕ) → d < f (n + 1) → span_of f d ≤ n
  span_to n d h = not_after (span_of f d) n d (span_holds d).from h

  pub span_before : (n d : ℕ) → d < f n → span_of f d < n
  span_before n d h = by_order (ltb (span_of f d) n) refl
    where
      by_order : (b : Bool) → ltb (span_of f d) n ≡ b → span_of f d < n
      by_order true e = ltb-true _ _ e
      by_order false e =
          let at_or_after = ltb-false (span_of f d) n e in
          absurd (omega (arith, h, (span_holds d).from, later n (span_of f d) at_or_after))
