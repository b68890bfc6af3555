-- Laws of `floor`, `nearest` and `modulo`: they are what their names say, they keep the order, and along a line they stay between the ends.
use mathlib.Core.Path.{◌≡◌, refl, ap}
use mathlib.Core.List.{[], ◌∷◌, map}
use mathlib.Core.Bool.{Bool, ◌&&◌}
use Prim.Native.Nat.{ℕ, suc, ◌+◌, ◌-◌, ◌*◌, ◌/◌, ◌<◌, ◌≤◌}
use native.Mathlib.Nat.{add-mul, suc-mul, div-eq_of_lt-le, mul-le-mul_left, one-mul, zero-mul, mod-lt, div-add-mod', div-mul-le_self, le-div_iff_mul-le, le_trans}
use native.Mathlib.Omega.{arith}
use lib.Dec.{T, leb→le, le→leb}
use lib.IntN.{ℤ, pos, negsuc, neg_ℤ, ◌+ℤ◌, ◌*ℤ◌}
use lib.Signed.{◌≤ℤ◌, le_z, le_z_yes}
use mir.Facts.{and_yes}
use Rattle.std.specs.Int.{int_rem_euclid}
use Rattle.std.proofs.lemmas.Int.{ints}
use Rattle.numbers.specs.Sign.{plus, minus}
use Rattle.numbers.specs.Rounding.{floor, nearest, modulo}
use Rattle.numbers.specs.Between.{Between}

-- halves go upward on both sides of zero
halves : map (λ (z : ℤ). nearest z 2) (minus 3 ∷ minus 1 ∷ plus 1 ∷ plus 3 ∷ []) ≡ minus 1 ∷ plus 0 ∷ plus 1 ∷ plus 2 ∷ []
unfolding nearest
halves = refl

div_mono : {m n : ℕ} (d : ℕ) → 0 < d → m ≤ n → m / d ≤ n / d
div_mono {m} {n} d p h = (le-div_iff_mul-le p).1 (le_trans (div-mul-le_self m d) h)

floor_mono : {x y : ℤ} (d : ℕ) → 0 < d → x ≤ℤ y → floor x d ≤ℤ floor y d
floor_mono {x = pos m} {y = pos n} d p h = le_z_yes (le→leb (m / d) (n / d) (div_mono d p (leb→le m n h.le)))
floor_mono {x = pos m} {y = negsuc n} d p h = absurd h.le
floor_mono {x = negsuc m} {y = pos n} d p h = le_z_yes tt
floor_mono {x = negsuc m} {y = negsuc n} d p h = le_z_yes (le→leb (n / d) (m / d) (div_mono d p (leb→le n m h.le)))

pub nearest_mono : {x y : ℤ} (d : ℕ) → 0 < d → x ≤ℤ y → nearest x d ≤ℤ nearest y d
unfolding nearest
nearest_mono d p h = floor_mono (2 * d) (omega arith) (omega (arith, ints, h))

pub nearest_pos : (n d : ℕ) → pos 0 ≤ℤ nearest (pos n) d
unfolding nearest
nearest_pos n d = omega (arith, ints)

-- what is whole is rounded to itself
pub nearest_whole : (z : ℤ) (d : ℕ) → 0 < d → nearest (z *ℤ pos d) d ≡ z
unfolding nearest
nearest_whole (pos n) d some = ap pos (div-eq_of_lt-le (2 * d) (omega arith) (omega (arith, add-mul n 1 (2 * d))))
nearest_whole (negsuc n) d some =
    let m = n * (2 * d) + (d - 1) in
    let below : neg_ℤ (pos (suc n * d)) *ℤ pos 2 +ℤ pos d ≡ negsuc m = omega (arith, ints, suc-mul n d) in
    rw below (ap negsuc (div-eq_of_lt-le (2 * d) (omega arith) (omega (arith, add-mul n 1 (2 * d)))))

-- the floor is at most the quotient ..
pub floor_low : (z : ℤ) (d : ℕ) → 0 < d → (floor z d *ℤ pos d) ≤ℤ z
floor_low (pos n) d p = omega (arith, ints, div-mul-le_self n d)
floor_low (negsuc n) d p = omega (arith, ints, suc-mul (n / d) d, div-add-mod' n d, mod-lt n p)

-- .. and one more is above it
pub floor_high : (z : ℤ) (d : ℕ) → 0 < d → (z +ℤ pos 1) ≤ℤ ((floor z d +ℤ pos 1) *ℤ pos d)
floor_high (pos n) d p = omega (arith, ints, add-mul (n / d) 1 d, one-mul d, zero-mul d, div-add-mod' n d, mod-lt n p)
floor_high (negsuc n) d p =
    let above : negsuc (n / d) +ℤ pos 1 ≡ minus (n / d) = omega (arith, ints) in
    rw above (grind (arith, ints, div-mul-le_self n d))

-- the numerator a + b r runs along a line: if what its two ends round to lies from low to high, so does what is between
along : (low high a b : ℤ) (end d : ℕ) → 0 < d → Between low (nearest a d) high → Between low (nearest (a +ℤ b *ℤ pos end) d) high → (r : ℕ) → r ≤ end → Between low (nearest (a +ℤ b *ℤ pos r) d) high
along low high a (pos s) end d p first last r h =
    let longer = mul-le-mul_left s h in
    let begun : a ≤ℤ (a +ℤ pos s *ℤ pos r) = omega (arith, ints) in
    let ended : (a +ℤ pos s *ℤ pos r) ≤ℤ (a +ℤ pos s *ℤ pos end) = omega (arith, ints, longer) in
    record {
      from = omega (arith, ints, first.from, nearest_mono d p begun);
      to = omega (arith, ints, nearest_mono d p ended, last.to);
    }
along low high a (negsuc s) end d p first last r h =
    let longer = mul-le-mul_left (suc s) h in
    let begun : (a +ℤ negsuc s *ℤ pos r) ≤ℤ a = omega (arith, ints) in
    let ended : (a +ℤ negsuc s *ℤ pos end) ≤ℤ (a +ℤ negsuc s *ℤ pos r) = omega (arith, ints, longer) in
    record {
      from = omega (arith, ints, last.from, nearest_mono d p ended);
      to = omega (arith, ints, nearest_mono d p begun, first.to);
    }

abbrev between : ℤ → ℤ → ℤ → Bool
between low z high = le_z low z && le_z z high

between_yes : (low z high : ℤ) → T (between low z high) → Between low z high
between_yes low z high t =
    let both = and_yes (le_z low z) (le_z z high) t in
    record { from = le_z_yes both.0; to = le_z_yes both.1 }

-- .. where both ends are tested
abbrev pub ends : ℤ → ℤ → ℤ → ℤ → ℕ → ℕ → Bool
ends low high a b end d = between low (nearest a d) high && between low (nearest (a +ℤ b *ℤ pos end) d) high

pub between_ends : (low high a b : ℤ) (end d : ℕ) → 0 < d → T (ends low high a b end d) → (r : ℕ) → r ≤ end → Between low (nearest (a +ℤ b *ℤ pos r) d) high
between_ends low high a b end d p tested =
    let (first, last) = and_yes (between low (nearest a d) high) (between low (nearest (a +ℤ b *ℤ pos end) d) high) tested in
    along low high a b end d p (between_yes _ _ _ first) (between_yes _ _ _ last)

-- modulo is what the library's `rem_euclid` leaves
pub rem_euclid_lem : (z : ℤ) (d : ℕ) → int_rem_euclid z (pos d) ≡ pos (modulo z d)
unfolding modulo
rem_euclid_lem (pos n) d = refl
rem_euclid_lem (negsuc n) d = refl

-- floor and modulo take a number apart
pub floor_and_modulo : (z : ℤ) (d : ℕ) → 0 < d → pos (modulo z d) +ℤ floor z d *ℤ pos d ≡ z
unfolding modulo
floor_and_modulo (pos n) d p = ap pos (omega (arith, div-add-mod' n d))
floor_and_modulo (negsuc n) d p = omega (arith, ints, suc-mul (n / d) d, div-add-mod' n d, mod-lt n p)

-- .. modulo being less than d
pub modulo_below : (z : ℤ) (d : ℕ) → 0 < d → modulo z d < d
unfolding modulo
modulo_below (pos n) d p = mod-lt n p
modulo_below (negsuc n) d p = omega (arith, p)
