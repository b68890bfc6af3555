-- Quotients of signed whole numbers: "Rounding is to nearest, halves upward, unless said otherwise; quotients are floors" (01, the first section).
use Rattle.std.specs.Prelude.{ℕ, ◌-◌, ◌*◌, ◌/◌, ◌%◌, ℤ, pos, negsuc, ◌+ℤ◌, ◌*ℤ◌}

-- the largest whole number that is at most z / d
abbrev pub floor : ℤ → ℕ → ℤ
floor (pos n) d = pos (n / d)
floor (negsuc n) d = negsuc (n / d)

-- z / d to the nearest whole number, halves upward: the floor of (2 z + d) / (2 d)
unfoldable pub nearest : ℤ → ℕ → ℤ
nearest z d = floor (z *ℤ pos 2 +ℤ pos d) (2 * d)

-- z modulo d: z less d times the floor of z / d, so that it is at least 0 and less than d
unfoldable pub modulo : ℤ → ℕ → ℕ
modulo (pos n) d = n % d
modulo (negsuc n) d = d - 1 - n % d
