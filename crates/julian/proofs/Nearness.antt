-- Below 2^22 a floating number has 31 of its 53 digits after the point, so that the nearest one to a fraction is off by half of 1/2^31 at most.
use mathlib.Core.Path.{◌≡◌, refl, ap}
use mathlib.Core.Bool.{false, not}
use Prim.Native.Nat.{ℕ, ◌+◌, ◌*◌, ◌/◌, ◌%◌, ◌^◌, ◌<◌, ◌≤◌, compare, Ordering}
use native.Mathlib.Nat.{mul-pos, mul-le-mul_left, mul-le-mul_right, mul-lt-mul_of_pos_right, le_of_mul-le-mul_right, div-add-mod', mod-lt, div-lt_iff_lt-mul}
use native.Mathlib.Omega.{arith}
use lib.Dec.{T, is_le, compare_is_eq, leb→le, nleb→lt, eqb→eq}
use lib.Pow.{pow-add, pow_pos, pow_mono}
use lib.Ieee.{Float, nan, inf, fin, Format, binary64, prec, low, nearest, round, is_nan}
use lib.Ieee.Digits.{size-le}
use lib.Ieee.Nearest.{closest}
use lib.Ieee.Order.{drop, kept, round_mono}
use lib.Ieee.Back.{round_whole}
use lib.Ieee.Scale.{grid, round_val, round_under}
use lib.Ieee.Positive.{num, den, positive, positive-finite, positive_of_value, value→cross, between}
use Rattle.julian.specs.Julian.{rounded, Near}

-- p / q is off n / d by half of 1 / s at most
abbrev Off : ℕ → ℕ → ℕ → ℕ → ℕ → Type 0
Off s p q n d = (2 * s * (p * d) ≤ 2 * s * (n * q) + d * q) × (2 * s * (n * q) ≤ 2 * s * (p * d) + d * q)

-- w and a remainder r: w or the next, by how twice r compares with d, is off by a half at most
chosen : (o : Ordering) (n d w r : ℕ) → w * d + r ≡ n → r < d → (T (is_le o) → r * 2 ≤ d) → (T (compare_is_eq o) → r * 2 ≡ d) → (T (not (is_le o)) → d < r * 2) → Off 1 (nearest w o) 1 n d
chosen Ordering.lt n d w r whole rest less same more = omega (arith, less tt)
chosen Ordering.eq n d w r whole rest less same more = omega (arith, same tt, mul-le-mul_right {m = w % 2} {n = 1} d (omega arith))
chosen Ordering.gt n d w r whole rest less same more = omega (arith, more tt)

-- so is the whole number nearest to n / d
closest_off : (n d : ℕ) → 0 < d → Off 1 (closest n d) 1 n d
closest_off n d some =
    chosen (compare (n % d * 2) d) n d (n / d) (n % d) (div-add-mod' n d) (mod-lt n some) (leb→le _ _) (eqb→eq _ _) (nleb→lt _ _)

-- counted in units of u / l, each of at most 1 / s, p / q is z, and z is the nearest whole number to n / d
counted : (s p q n d z u l : ℕ) → 0 < l → p * l ≡ z * u * q → u * s ≤ l → Off 1 z 1 (n * l) (d * u) → Off s p q n d
counted s p q n d z u l some value fine half =
    let same = ap (λ (k : ℕ). k * (d * s)) value in
    let unit = mul-le-mul_left (d * q) fine in
    let above = mul-le-mul_right (q * s) half.0 in
    let below = mul-le-mul_right (q * s) half.1 in
    (le_of_mul-le-mul_right (omega arith) some, le_of_mul-le-mul_right (omega arith) some)

-- a whole number that a format holds is above zero there
whole_above : (f : Format) (k : ℕ) → 0 < k → k ≤ 2 ^ prec f → T (positive (round f false k 1))
whole_above f k some h = positive_of_value (round f false k 1) k 1 (round_whole f false k h) some

-- a fraction of 1 or more and below 2^e, in a format of e + s digits
module _ (f : Format) (e s n d : ℕ) (digits : e + s ≡ prec f) (deep : s ≤ low f) (some : 0 < d) (from : d ≤ n) (to : n < d * 2 ^ e) where
  -- it lies between two whole numbers of the format, and so does the rounded one
  above : T (positive (round f false n d))
  above =
      between (round f false 1 1) (round f false n d) (round f false (2 ^ e) 1)
      (whole_above f 1 (omega arith) (pow_pos (prec f)))
      (whole_above f (2 ^ e) (pow_pos e) (pow_mono (omega arith)))
      (round_mono f 1 1 n d (omega arith) some (omega arith))
      (round_mono f n d (2 ^ e) 1 some (omega arith) (omega arith))

  -- counted by the format's smallest value, 1 / 2^low, it has no more than e + low digits: those that are dropped leave s after the point
  left : drop (prec f) (n * 2 ^ low f) d + s ≤ low f
  left =
      let below : n * 2 ^ low f < 2 ^ (e + low f) * d = rw (pow-add 2 e (low f)) (omega (arith, mul-lt-mul_of_pos_right to (pow_pos (low f)))) in
      omega (arith, size-le _ (e + low f) ((div-lt_iff_lt-mul some).1 below))

  -- the rounded one is off by half of 1 / 2^s at most
  round_off : let x = round f false n d in T (positive x) × Off (2 ^ s) (num x) (den x) n d
  round_off =
      let x = round f false n d in
      let k = drop (prec f) (n * 2 ^ low f) d in
      let value = value→cross x (grid f n d) (2 ^ low f) (round_val f n d (round_under f n d (positive-finite x above))) in
      let fine : 2 ^ k * 2 ^ s ≤ 2 ^ low f = rw (← (pow-add 2 k s)) (pow_mono left) in
      let half = closest_off (n * 2 ^ low f) (d * 2 ^ k) (mul-pos some (pow_pos k)) in
      (above, counted (2 ^ s) (num x) (den x) n d (kept (prec f) (n * 2 ^ low f) d) (2 ^ k) (2 ^ low f) (pow_pos (low f)) value fine half)

-- at 53 = 22 + 31 digits
pub near : (n d : ℕ) → 0 < d → d ≤ n → n < d * 2 ^ 22 → Near n d (rounded n d)
unfolding rounded
near n d some from to =
    let off = round_off binary64 22 31 n d refl (omega arith) some from to in
    record { above_zero = off.0; at_most = off.1.0; at_least = off.1.1 }

-- what is near a fraction is a number
pub near_number : (n d : ℕ) (x : Float) → Near n d x → T (not (is_nan x))
unfolding is_nan
near_number n d nan h = absurd h.above_zero
near_number n d (inf s) h = tt
near_number n d (fin s m e) h = tt
