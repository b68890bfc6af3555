-- Fields and their bytes, for any list of fields: bytes with the tags, lengths and numbers of a record are that record's, and the other way round
-- for numbers that fit.
use mathlib.Core.Path.{◌≡◌, refl, ap, ◌∙◌}
use mathlib.Core.Bool.{true, and-eq-true_iff}
use mathlib.Core.List.{List, [], ◌∷◌, ◌++◌}
use Prim.Native.Nat.{ℕ, ◌+◌, ◌^◌, ◌<◌}
use native.Mathlib.Omega.{arith}
use lib.ListN.{length, drop, drop_of_length-le}
use lib.Dec.{eqb}
use borrow.Author.Tests.{eqb-true, eq-eqb}
use Rattle.record_fields.specs.declared.Fields.{Fields}
use Rattle.record_fields.specs.Tagged.{Field, Bytes, size_of, bytes_of, field_bytes, numbers_of, number_at, tags_at, numbers_at}
use Rattle.record.proofs.Numbers.{number_there, number_here, behind}

-- tags and lengths fit their bytes ..
abbrev pub HeadsFit : List Field → Type 0
HeadsFit [] = Unit {0}
HeadsFit (f ∷ fs) = (f.tag < 256) × ((f.width < 65536) × HeadsFit fs)

-- .. and so do the numbers of a record
abbrev pub NumbersFit : List Field → Fields → Type 0
NumbersFit [] x = Unit {0}
NumbersFit (f ∷ fs) x = (f.number x < 256 ^ f.width) × NumbersFit fs x

module _ (x : Fields) (bytes : List ℕ) where
  -- bytes that have a record's tags, lengths and numbers from a place on are that record's ..
  pub fields_there : Bytes bytes → (fs : List Field) (place : ℕ) → length bytes ≡ place + size_of fs → tags_at fs bytes place ≡ true → numbers_at fs bytes place ≡ numbers_of fs x → drop place bytes ≡ field_bytes fs x
  unfolding field_bytes tags_at numbers_at numbers_of
  fields_there are [] place size tags numbers = drop_of_length-le bytes {i = place} (omega (arith, size))
  fields_there are (f ∷ fs) place size tags numbers =
      let (tag, more) = (and-eq-true_iff (eqb (number_at bytes place 1) f.tag) _).0 tags in
      let (width, others) = (and-eq-true_iff (eqb (number_at bytes (place + 1) 2) f.width) _).0 more in
      let number : number_at bytes (place + 3) f.width ≡ f.number x = cc in
      let rest : numbers_at fs bytes (place + 3 + f.width) ≡ numbers_of fs x = cc in
      let on : place + 1 + 2 ≡ place + 3 = omega arith in
      let behind : drop (place + 3) bytes ≡ bytes_of f.width (f.number x) ++ field_bytes fs x
      = rw number at (number_there bytes (place + 3) are f.width (omega (arith, size))) ∙ ap (λ l. bytes_of f.width (f.number x) ++ l) (fields_there are fs (place + 3 + f.width) (omega (arith, size)) others rest) in
      let second : drop (place + 1) bytes ≡ bytes_of 2 f.width ++ drop (place + 3) bytes = rw (eqb-true (number_at bytes (place + 1) 2) f.width width, on) at (number_there bytes (place + 1) are 2 (omega (arith, size))) in
      let first : drop place bytes ≡ bytes_of 1 f.tag ++ drop (place + 1) bytes = rw (eqb-true (number_at bytes place 1) f.tag tag) at (number_there bytes place are 1 (omega (arith, size))) in
      first ∙ ap (λ l. bytes_of 1 f.tag ++ l) (second ∙ ap (λ l. bytes_of 2 f.width ++ l) behind)

  module _ (f : Field) (fs : List Field) (place : ℕ) (e : drop place bytes ≡ field_bytes (f ∷ fs) x) where
    abbrev after_width : List ℕ
    after_width = bytes_of f.width (f.number x) ++ field_bytes fs x

    tag_stands : drop place bytes ≡ bytes_of 1 f.tag ++ (bytes_of 2 f.width ++ after_width)
    unfolding field_bytes
    tag_stands = e

    width_stands : drop (place + 1) bytes ≡ bytes_of 2 f.width ++ after_width
    width_stands = behind bytes place 1 f.tag _ tag_stands

    number_stands : drop (place + 3) bytes ≡ after_width
    number_stands = let on : place + 1 + 2 ≡ place + 3 = omega arith in rw on at (behind bytes (place + 1) 2 f.width _ width_stands)

    rest_stands : drop (place + 3 + f.width) bytes ≡ field_bytes fs x
    rest_stands = behind bytes (place + 3) f.width (f.number x) _ number_stands

  -- .. a record's bytes have its tags and lengths ..
  pub tags_here : (fs : List Field) (place : ℕ) → HeadsFit fs → drop place bytes ≡ field_bytes fs x → tags_at fs bytes place ≡ true
  unfolding tags_at
  tags_here [] place fit e = refl
  tags_here (f ∷ fs) place fit e =
      let tag = number_here bytes place 1 f.tag _ (omega (arith, fit.0)) (tag_stands f fs place e) in
      let width = number_here bytes (place + 1) 2 f.width _ (omega (arith, fit.1.0)) (width_stands f fs place e) in
      rw (eq-eqb _ _ tag, eq-eqb _ _ width) (tags_here fs (place + 3 + f.width) fit.1.1 (rest_stands f fs place e))

  -- .. and its numbers, if they fit
  pub numbers_here : (fs : List Field) (place : ℕ) → NumbersFit fs x → drop place bytes ≡ field_bytes fs x → numbers_at fs bytes place ≡ numbers_of fs x
  unfolding numbers_at numbers_of
  numbers_here [] place fit e = refl
  numbers_here (f ∷ fs) place fit e =
      rw
      (number_here bytes (place + 3) f.width (f.number x) _ fit.0 (number_stands f fs place e), numbers_here fs (place + 3 + f.width) fit.1 (rest_stands f fs place e))
