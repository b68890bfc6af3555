-- A rule shown at every number of a range, or at every row of a table, by one test that is computed.
use mathlib.Core.Path.{◌≡◌, refl, ap}
use mathlib.Core.Bool.{Bool, true, ◌&&◌}
use mathlib.Core.List.{List}
use Prim.Native.Nat.{ℕ, zero, suc, ◌+◌, ◌-◌, ◌<◌, ◌≤◌}
use native.Mathlib.Nat.{add-zero}
use native.Mathlib.Numerals.{add-one}
use native.Mathlib.Omega.{arith}
use lib.Dec.{T}
use lib.ListN.{length, get_or}
use mir.Facts.{and_yes}

-- the test passes at first, first + 1, .., first + count − 1
unfoldable pub every : (ℕ → Bool) → ℕ → ℕ → Bool
every test first zero = true
every test first (suc count) = test first && every test (suc first) count

from : (test : ℕ → Bool) (first count : ℕ) → T (every test first count) → (i : ℕ) → i < count → T (test (first + i))
unfolding every
from test first zero t i h = absurd (omega arith)
from test first (suc count) t zero h = rw add-zero (and_yes (test first) (every test (suc first) count) t).0
from test first (suc count) t (suc i) h =
    let moved : suc first + i ≡ first + suc i = omega arith in
    rw moved at (from test (suc first) count (and_yes (test first) (every test (suc first) count) t).1 i (omega arith))

-- what opens the test: the rule at each number of the range
pub at_each : (test : ℕ → Bool) (first count : ℕ) → T (every test first count) → (k : ℕ) → first ≤ k → k < first + count → T (test k)
at_each test first count t k low high =
    let there : first + (k - first) ≡ k = omega arith in
    rw there at (from test first count t (k - first) (omega arith))

-- the test passes at every row of a table: a test over the rows' places
abbrev pub every_row : {A : Type 0} → (A → Bool) → A → List A → Bool
every_row test other rows = every (λ i. test (get_or rows i other)) 0 (length rows)

pub at_each_row : {A : Type 0} (test : A → Bool) (other : A) (rows : List A) → T (every_row test other rows) → (i : ℕ) → i < length rows → T (test (get_or rows i other))
at_each_row test other rows t i h = at_each (λ k. test (get_or rows k other)) 0 (length rows) t i (omega arith) (omega arith)

-- a test of neighbours passes at f first and f (first + 1), f (first + 1) and f (first + 2), .., count times; each is computed once
unfoldable walk : (ℕ → ℕ → Bool) → (ℕ → ℕ) → ℕ → ℕ → ℕ → Bool
walk test f here first zero = true
walk test f here first (suc count) = let next : ℕ = f (suc first) in test here next && walk test f next (suc first) count

unfoldable pub every_two : (ℕ → ℕ → Bool) → (ℕ → ℕ) → ℕ → ℕ → Bool
unfolding walk
every_two test f first count = walk test f (f first) first count

as_every : (test : ℕ → ℕ → Bool) (f : ℕ → ℕ) (first count : ℕ) → walk test f (f first) first count ≡ every (λ k. test (f k) (f (suc k))) first count
unfolding walk every
as_every test f first zero = refl
as_every test f first (suc count) = ap (λ b. test (f first) (f (suc first)) && b) (as_every test f (suc first) count)

pub at_each_two : (test : ℕ → ℕ → Bool) (f : ℕ → ℕ) (first count : ℕ) → T (every_two test f first count) → (k : ℕ) → first ≤ k → k < first + count → T (test (f k) (f (k + 1)))
unfolding every_two walk
at_each_two test f first count t k low high =
    let opened : T (every (λ i. test (f i) (f (suc i))) first count) = rw (as_every test f first count) at t in
    rw add-one (at_each (λ i. test (f i) (f (suc i))) first count opened k low high)
