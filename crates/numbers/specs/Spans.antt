-- Spans one behind another, as months are: span n runs from f n to the eve of f (n + 1).
use Rattle.std.specs.Prelude.{true, false, ℕ, zero, suc, ◌+◌, ◌<◌, ◌≤◌, leb}

-- span n holds d
pub record Holds (f : ℕ → ℕ) (n d : ℕ) : Type 0 where
  pub from : f n ≤ d
  pub to : d < f (n + 1)

-- span n takes a to b
pub record Takes (f : ℕ → ℕ) (n a b : ℕ) : Type 0 where
  pub at_least : f n + a ≤ f (n + 1)
  pub at_most : f (n + 1) ≤ f n + b

-- the last of the spans 0 to n that begins by d (0 if none does)
unfoldable pub last_begun : (ℕ → ℕ) → ℕ → ℕ → ℕ
last_begun f d zero = zero
last_begun f d (suc n) = elim (leb (f (suc n)) d) [ true ↦ suc n | false ↦ last_begun f d n ]

-- the span that holds d: the last that begins by then. It is meant for spans that begin at 0 and are not empty: then none after span d begins by d
unfoldable pub span_of : (ℕ → ℕ) → ℕ → ℕ
span_of f d = last_begun f d d
