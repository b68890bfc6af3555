-- Of two numbers one is the lesser, or they are equal.
use mathlib.Core.Path.{◌≡◌, refl}
use mathlib.Core.Bool.{Bool, true, false}
use Prim.Native.Nat.{ℕ, ◌<◌, ◌≤◌}
use borrow.Author.Tests.{ltb-true, ltb-false}
use lib.Dec.{ltb}

-- what holds if one is the lesser, and if it is not, holds
pub by_order : {A : Type 0} (a b : ℕ) → (a < b → A) → (b ≤ a → A) → A
by_order {A} a b less not_less = by_test (ltb a b) refl
  where
    by_test : (t : Bool) → ltb a b ≡ t → A
    by_test true e = less (ltb-true a b e)
    by_test false e = not_less (ltb-false a b e)
