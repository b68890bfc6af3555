-- The laws of tagged fields, read for the year record's layout.
use mathlib.Core.Path.{◌≡◌, refl, sym, ap, ◌∙◌}
use mathlib.Core.Bool.{Bool, true, false, false≢true}
use mathlib.Core.List.{List}
use Prim.Native.Nat.{ℕ}
use native.Mathlib.Omega.{arith}
use lib.ListN.{length}
use Rattle.record_fields.specs.declared.Fields.{Fields}
use Rattle.record_fields.specs.Tagged.{Bytes, field_bytes, numbers_of, tags_at, numbers_at, same}
use Rattle.record_fields.specs.Fields.{layout, size}
use Rattle.record_fields.proofs.YearFields.{Small}
use Rattle.record.proofs.TaggedLaws.{HeadsFit, NumbersFit, fields_there, tags_here, numbers_here}
use Rattle.record.proofs.Same.{same_one, one_same}

heads_fit : HeadsFit layout
heads_fit = (omega arith, (omega arith, (omega arith, (omega arith, (omega arith, (omega arith, (omega arith, (omega arith, (omega arith, (omega arith, tt))))))))))

numbers_fit : (x : Fields) → Small x → NumbersFit layout x
numbers_fit x s = (omega (arith, s.calendar), (omega (arith, s.year), (omega (arith, s.first_day), (omega (arith, s.leap), (omega (arith, s.long_months), tt)))))

-- bytes with the tags and numbers of a record are that record's ..
pub own_bytes : (bytes : List ℕ) (x : Fields) → Bytes bytes → length bytes ≡ size → tags_at layout bytes 0 ≡ true → numbers_at layout bytes 0 ≡ numbers_of layout x → bytes ≡ field_bytes layout x
own_bytes bytes x are all tags numbers = fields_there x bytes are layout 0 all tags numbers

-- .. and a record's bytes have its tags and numbers
pub own_tags : (x : Fields) → tags_at layout (field_bytes layout x) 0 ≡ true
own_tags x = tags_here x (field_bytes layout x) layout 0 heads_fit refl

pub own_numbers : (x : Fields) → Small x → numbers_at layout (field_bytes layout x) 0 ≡ numbers_of layout x
own_numbers x s = numbers_here x (field_bytes layout x) layout 0 (numbers_fit x s) refl

-- so that bytes have the tags of a record exactly if their numbers, written anew, give them again
module _ (bytes : List ℕ) (x : Fields) (are : Bytes bytes) (all : length bytes ≡ size) (found : numbers_of layout x ≡ numbers_at layout bytes 0) where
  abbrev anew : List ℕ
  anew = field_bytes layout x

  pub tags_told : same bytes anew ≡ tags_at layout bytes 0
  tags_told = by_test (same bytes anew) (tags_at layout bytes 0) refl refl
    where
      by_test : (b t : Bool) → same bytes anew ≡ b → tags_at layout bytes 0 ≡ t → b ≡ t
      by_test true true e f = refl
      by_test false false e f = refl
      by_test true false e f = absurd (false≢true (sym f ∙ ap (λ l. tags_at layout l 0) (same_one bytes anew e) ∙ own_tags x))
      by_test false true e f = absurd (false≢true (sym e ∙ one_same bytes anew (own_bytes bytes x are all f (sym found))))
