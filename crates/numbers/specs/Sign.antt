-- Signed whole numbers as a page prints them.
use Rattle.std.specs.Prelude.{ℕ, ℤ, pos, negsuc, neg_ℤ}

-- +n
abbrev pub plus : ℕ → ℤ
plus n = pos n

-- −n
abbrev pub minus : ℕ → ℤ
minus n = neg_ℤ (pos n)

-- a number that is not below zero, as a natural (0 for any other)
abbrev pub whole : ℤ → ℕ
whole (pos n) = n
whole (negsuc n) = 0
