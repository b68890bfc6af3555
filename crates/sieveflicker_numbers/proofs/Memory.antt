-- What lent memory holds when numbers have been stored in it one by one.
use mathlib.Core.Path.{◌≡◌, refl, sym, ap, ◌∙◌}
use mathlib.Core.List.{List, [], ◌∷◌, ◌++◌}
use Prim.Native.Nat.{ℕ, suc, ◌+◌, ◌*◌, ◌<◌, ◌≤◌}
use native.Mathlib.Numerals.{add-one}
use native.Mathlib.Omega.{arith}
use lib.ListN.{length, get_or, set, take, drop}
use lib.Seq.{sets, sets-eq, paste, take-suc, take_all, length-take-le}
use Rattle.calendar_year.specs.declared.Month.{Month}
use Rattle.calendar_year.specs.Years.{no_month}
use Rattle.sieveflicker_numbers.specs.Numbers.{month_numbers, places_numbers}

module _ {A : Type 0} where
  -- three stores at places that are counted from the first, and one more
  pub three_stores : (out : List A) (place : ℕ) (a b c : A) → set (set (set out place a) (place + 1) b) (place + 2) c ≡ sets out place (a ∷ b ∷ c ∷ [])
  three_stores out place a b c =
      let one : place + 1 ≡ suc place = omega arith in
      let two : place + 2 ≡ suc (suc place) = omega arith in
      rw (one, two)

  pub fourth_store : (out : List A) (place : ℕ) (a b c d : A) → set (sets out place (a ∷ b ∷ c ∷ [])) (place + 3) d ≡ sets out place (a ∷ b ∷ c ∷ d ∷ [])
  fourth_store out place a b c d = ap (λ n. set (sets out place (a ∷ b ∷ c ∷ [])) n d) (omega arith)

  -- numbers copied into a part are stored there one by one
  pub pasted : (out numbers : List A) (place : ℕ) → place + length numbers ≤ length out → paste out place numbers (length numbers) ≡ sets out place numbers
  pasted out numbers place fits = rw (sets-eq numbers out place fits, take_all (length numbers) numbers (omega arith))

  -- numbers stored behind numbers are stored together
  pub sets_append : (out : List A) (place : ℕ) (xs ys : List A) → sets (sets out place xs) (place + length xs) ys ≡ sets out place (xs ++ ys)
  sets_append out place [] ys = ap (λ n. sets out n ys) (omega arith)
  sets_append out place (x ∷ xs) ys = ap (λ n. sets (sets (set out place x) (suc place) xs) n ys) (omega arith) ∙ sets_append (set out place x) (suc place) xs ys

  -- from the first place on, they stand before what is left of the memory
  pub sets_front : (out xs : List A) (count : ℕ) → length xs ≡ count → count ≤ length out → sets out 0 xs ≡ xs ++ drop count out
  sets_front out xs count e h = let all : 0 + length xs ≡ count = omega (arith, e) in sets-eq xs out 0 (omega (arith, e, h)) ∙ ap (λ n. xs ++ drop n out) all

-- a year's places: each has four numbers, which go behind those of the places before it
places_append : (ms ns : List Month) → places_numbers (ms ++ ns) ≡ places_numbers ms ++ places_numbers ns
unfolding places_numbers
places_append [] ns = refl
places_append (m ∷ ms) ns = ap (λ l. month_numbers m ++ l) (places_append ms ns)

pub places_length : (ms : List Month) → length (places_numbers ms) ≡ 4 * length ms
unfolding places_numbers
places_length [] = refl
places_length (m ∷ ms) = omega (arith, places_length ms)

pub next_place : (out left after : List ℕ) (ms : List Month) (place : ℕ) (m : Month) → place < length ms → m ≡ get_or ms place no_month → left ≡ sets out 3 (places_numbers (take place ms)) → after ≡ sets left (3 + 4 * place) (month_numbers m) → after ≡ sets out 3 (places_numbers (take (place + 1) ms))
unfolding places_numbers
next_place out left after ms place m there here before now =
    let at : 3 + 4 * place ≡ 3 + length (places_numbers (take place ms)) = omega (arith, places_length (take place ms), length-take-le place ms (omega (arith, there))) in
    let next : take (place + 1) ms ≡ take place ms ++ (m ∷ []) = rw add-one (take-suc ms place no_month there) ∙ ap (λ n. take place ms ++ (n ∷ [])) (sym here) in
    now ∙ ap (λ l. sets l (3 + 4 * place) (month_numbers m)) before
    ∙ ap (λ n. sets (sets out 3 (places_numbers (take place ms))) n (month_numbers m)) at
    ∙ sets_append out 3 (places_numbers (take place ms)) (month_numbers m)
    ∙ sym (ap (sets out 3) (ap places_numbers next ∙ places_append (take place ms) (m ∷ [])))
