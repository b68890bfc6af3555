-- A number and its bytes, whatever their length: each is found again from the other, a number if it fits.
use mathlib.Core.Path.{◌≡◌, refl, sym, ap, ◌∙◌}
use mathlib.Core.List.{List, [], ◌∷◌, ◌++◌}
use Prim.Native.Nat.{ℕ, zero, suc, ◌+◌, ◌*◌, ◌/◌, ◌%◌, ◌^◌, ◌<◌, ◌≤◌}
use native.Mathlib.Nat.{pow-suc, div-lt_iff_lt-mul, div-add-mod'}
use native.Mathlib.Omega.{arith}
use lib.ListN.{length, get_or, drop, length-append}
use lib.Seq.{drop-cons, drop-drop, drop_at, get_or_at, get_or-drop, append_snoc}
use Rattle.record_fields.specs.Tagged.{Bytes, bytes_of, number_at}

length_bytes : (w n : ℕ) → length (bytes_of w n) ≡ w
unfolding bytes_of
length_bytes zero n = refl
length_bytes (suc w) n = length-append (bytes_of w (n / 256)) (n % 256 ∷ []) ∙ ap (λ k. k + 1) (length_bytes w (n / 256)) ∙ omega arith

module _ (bytes : List ℕ) (place : ℕ) where
  -- bytes from a place on are those of the number that they tell, and the rest ..
  pub number_there : Bytes bytes → (w : ℕ) → place + w ≤ length bytes → drop place bytes ≡ bytes_of w (number_at bytes place w) ++ drop (place + w) bytes
  unfolding bytes_of number_at
  number_there are zero fits = let e : place + 0 ≡ place = omega arith in rw e
  number_there are (suc w) fits =
      let n : ℕ = number_at bytes place w in
      let last : ℕ = get_or bytes (place + w) 0 in
      let high : (n * 256 + last) / 256 ≡ n = omega (arith, are (place + w)) in
      let low : (n * 256 + last) % 256 ≡ last = omega (arith, are (place + w)) in
      let on : place + suc w ≡ suc (place + w) = omega arith in
      number_there are w (omega (arith, fits))
      ∙ ap (λ l. bytes_of w n ++ l) (drop-cons bytes (place + w) 0 (omega (arith, fits)))
      ∙ sym (rw (high, low, on) (append_snoc (bytes_of w n) last (drop (suc (place + w)) bytes)))

  -- .. and where a number's bytes stand, that number is found
  pub number_here : (w n : ℕ) (rest : List ℕ) → n < 256 ^ w → drop place bytes ≡ bytes_of w n ++ rest → number_at bytes place w ≡ n
  unfolding bytes_of number_at
  number_here zero n rest small e = omega (arith, small)
  number_here (suc w) n rest small e =
      let high : n / 256 < 256 ^ w = (div-lt_iff_lt-mul {k = 256} {x = n} {y = 256 ^ w} (omega arith)).1 (rw (pow-suc 256 w) at small) in
      let front : drop place bytes ≡ bytes_of w (n / 256) ++ (n % 256 ∷ rest) = e ∙ append_snoc (bytes_of w (n / 256)) (n % 256) rest in
      let last : get_or bytes (place + w) 0 ≡ n % 256 = sym (get_or-drop place bytes w 0) ∙ ap (λ l. get_or l w 0) front ∙ get_or_at (bytes_of w (n / 256)) (n % 256) rest 0 w (length_bytes w (n / 256)) in
      rw (number_here w (n / 256) (n % 256 ∷ rest) high front, last) (div-add-mod' n 256)

-- what stands behind so many bytes
pub behind : (bytes : List ℕ) (place w n : ℕ) (rest : List ℕ) → drop place bytes ≡ bytes_of w n ++ rest → drop (place + w) bytes ≡ rest
behind bytes place w n rest e = sym (drop-drop w place bytes) ∙ ap (drop w) e ∙ drop_at (bytes_of w n) rest w (length_bytes w n)

-- lists that agree from a place on, as far as a number goes, have there one number
pub one_number : (l m : List ℕ) (place w : ℕ) → ((i : ℕ) → i < w → get_or l (place + i) 0 ≡ get_or m (place + i) 0) → number_at l place w ≡ number_at m place w
unfolding number_at
one_number l m place zero agree = refl
one_number l m place (suc w) agree = rw (one_number l m place w (λ i h. agree i (omega (arith, h))), agree w (omega arith))
