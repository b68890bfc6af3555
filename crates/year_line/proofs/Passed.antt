-- The digits that a reader of a number has passed: what they keep, and what one more does.
use mathlib.Core.Path.{◌≡◌, refl, ◌∙◌}
use mathlib.Core.Bool.{true, false, and-false, and-eq-true_iff}
use mathlib.Core.List.{List}
use Prim.Native.Nat.{ℕ, ◌+◌, ◌-◌, ◌*◌, ◌^◌, ◌<◌, ◌≤◌}
use native.Mathlib.Nat.{pow-suc, pow-le-pow_right, zero-lt-suc, add-mul, mul_assoc, mul_comm}
use native.Mathlib.Numerals.{add-one}
use native.Mathlib.Omega.{arith}
use borrow.Author.Tests.{leb-true, le-leb, lt-leb}
use lib.Dec.{leb}
use lib.ListN.{length, get_or, drop, drop_of_length-le}
use lib.Seq.{drop-cons}
use Rattle.year_line.specs.Line.{is_digit, all_digits, is_number, value_of}
use Rattle.year_line.specs.Room.{IsNumber}

-- the bytes before a place are digits of this value: what remains decides
pub record Passed (bytes : List ℕ) (value place : ℕ) : Type 0 where
  pub digits : all_digits bytes ≡ all_digits (drop place bytes)
  pub value_is : value_of bytes ≡ value * 10 ^ length (drop place bytes) + value_of (drop place bytes)
  pub small : value < 10 ^ place

-- where the byte is a digit, it is one of ten, and the value has room for one more
pub record Room (byte value : ℕ) : Type 0 where
  pub digit : is_digit byte ≡ true
  pub from : 48 ≤ byte
  pub to : byte ≤ 57
  pub small : value < 10 ^ 8

-- one more digit: those before it count ten times as much
shifted : (value digit power rest : ℕ) → value * (power * 10) + (digit * power + rest) ≡ (value * 10 + digit) * power + rest
shifted value digit power rest = omega (arith, add-mul (value * 10) digit power, mul_assoc value 10 power, mul_comm power 10)

module _ (bytes : List ℕ) where
  pub none_passed : Passed bytes 0 0
  none_passed = record { digits = refl; value_is = omega arith; small = omega arith }

  pub too_few : length bytes < 1 → is_number bytes ≡ false
  unfolding is_number
  too_few h = rw (lt-leb 1 (length bytes) h)

  pub too_many : 9 < length bytes → is_number bytes ≡ false
  unfolding is_number
  too_many h = simp (lt-leb (length bytes) 9 h, and-false)

  module _ (value place : ℕ) (passed : Passed bytes value place) where
    pub all_passed : 1 ≤ length bytes → length bytes ≤ 9 → length bytes ≤ place → IsNumber bytes value
    unfolding is_number all_digits value_of
    all_passed some few past =
        let none = drop_of_length-le bytes past in
        record {
          number = rw (le-leb 1 (length bytes) some, le-leb (length bytes) 9 few) (rw none at passed.digits);
          value_is = omega (arith, rw none at passed.value_is);
        }

    module _ (inside : place < length bytes) where
      pub no_digit : is_digit (get_or bytes place 0) ≡ false → is_number bytes ≡ false
      unfolding is_number all_digits
      no_digit e = simp (rw (drop-cons bytes place 0 inside, e) at passed.digits, and-false)

      pub room : length bytes ≤ 9 → is_digit (get_or bytes place 0) ≡ true → Room (get_or bytes place 0) value
      room few e =
          let byte = get_or bytes place 0 in
          let (from, to) = (and-eq-true_iff (leb 48 byte) (leb byte 57)).0 e in
          let eight : place ≤ 8 = omega arith in
          let power : 10 ^ place ≤ 10 ^ 8 = pow-le-pow_right (zero-lt-suc 9) eight in
          record { digit = e; from = leb-true 48 byte from; to = leb-true byte 57 to; small = omega (arith, passed.small) }

      pub one_more : Room (get_or bytes place 0) value → Passed bytes (value * 10 + (get_or bytes place 0 - 48)) (place + 1)
      unfolding all_digits value_of
      one_more r =
          let next = drop-cons bytes place 0 inside in
          record {
            digits = rw add-one (rw (next, r.digit) at passed.digits);
            value_is = rw add-one (rw (next, pow-suc) at passed.value_is ∙ shifted value _ _ _);
            small = rw (add-one, pow-suc) (omega (arith, passed.small, r.to));
          }
