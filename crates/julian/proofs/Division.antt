-- A whole number of at most 2^53 is a floating number as it stands, so that a quotient of two is rounded only once, as their fraction.
use mathlib.Core.Path.{◌≡◌, ap}
use mathlib.Core.Bool.{false}
use Prim.Native.Nat.{ℕ, zero, suc, ◌*◌, ◌^◌, ◌<◌, ◌≤◌}
use native.Mathlib.Nat.{mul-pos, zero-lt-suc}
use native.Mathlib.Omega.{arith}
use lib.Dec.{T, le→leb, eqb-suc-zero}
use lib.IntN.{pos}
use lib.Ieee.{Float, nan, inf, fin, Format, binary64, down, round, div, of_int, in_float}
use lib.Ieee.Fits.{up_pos, down_pos}
use lib.Ieee.Exact.{HasValue}
use lib.Ieee.Back.{round_whole}
use lib.Ieee.Scale.{round_same}
use Rattle.julian.specs.Julian.{rounded}

-- a floating number that is n, by one that is d
quotient : (f : Format) (n d : ℕ) (x y : Float) → 0 < d → HasValue x false n 1 → HasValue y false d 1 → div f x y ≡ round f false n d
unfolding div
quotient f n d nan y some h k = elim h [ ]
quotient f n d (inf _) y some h k = elim h [ ]
quotient f n d (fin s m e) nan some h k = elim k [ ]
quotient f n d (fin s m e) (inf _) some h k = elim k [ ]
quotient f n d (fin s m e) (fin t zero g) some h k = absurd (omega (arith, mul-pos some (down_pos g), k.1))
quotient f n d (fin s m e) (fin t (suc l) g) some h k =
    let dividend = ap (λ (z : ℕ). z * (down g * d)) h.1 in
    let divisor = ap (λ (z : ℕ). z * (down e * n)) k.1 in
    let not_zero = mul-pos (mul-pos (zero-lt-suc l) (up_pos g)) (down_pos e) in
    rw (h.0, k.0, eqb-suc-zero l) (round_same f false _ _ n d not_zero some (omega arith))

-- the conversion of a whole number is exact
pub convertible : (n : ℕ) → n ≤ 2 ^ 53 → T (in_float binary64 (pos n))
unfolding in_float
convertible n h = le→leb _ _ h

-- two whole numbers, converted and divided
pub once : (n d : ℕ) → n ≤ 2 ^ 53 → 0 < d → d ≤ 2 ^ 53 → div binary64 (of_int binary64 (pos n)) (of_int binary64 (pos d)) ≡ rounded n d
unfolding rounded of_int
once n d h some k = quotient binary64 n d _ _ some (round_whole binary64 false n h) (round_whole binary64 false d k)
