-- Digits: nothing else is among them, and a number has at most nine.
use mathlib.Core.Path.{◌≡◌, refl, sym, ap, ◌∙◌}
use mathlib.Core.Bool.{true, false, ◌&&◌, and-eq-true_iff, true≢false}
use mathlib.Core.List.{List, [], ◌∷◌}
use Prim.Native.Nat.{ℕ, ◌≤◌}
use borrow.Author.Tests.{leb-true, ne_eqb}
use lib.Dec.{eqb, leb}
use lib.ListN.{length}
use Rattle.year_line.specs.Line.{is_digit, all_digits, is_number, has}

-- what is no digit is not among digits
pub not_among : (stop : ℕ) → is_digit stop ≡ false → (digits : List ℕ) → all_digits digits ≡ true → has stop digits ≡ false
unfolding all_digits has
not_among stop e [] h = refl
not_among stop e (byte ∷ digits) h =
    let (digit, later) = (and-eq-true_iff (is_digit byte) (all_digits digits)).0 h in
    let other : eqb byte stop ≡ false = ne_eqb byte stop (λ same. true≢false (sym digit ∙ ap (λ b. is_digit b) same ∙ e)) in
    rw other (not_among stop e digits later)

-- a number: at most nine digits
pub record OfNine (bytes : List ℕ) : Type 0 where
  pub short : length bytes ≤ 9
  pub digits : all_digits bytes ≡ true

pub of_nine : (bytes : List ℕ) → is_number bytes ≡ true → OfNine bytes
unfolding is_number
of_nine bytes e =
    let (sized, digits) = (and-eq-true_iff (leb 1 (length bytes) && leb (length bytes) 9) (all_digits bytes)).0 e in
    let short = leb-true (length bytes) 9 ((and-eq-true_iff (leb 1 (length bytes)) (leb (length bytes) 9)).0 sized).1 in
    record { short = short; digits = digits }
