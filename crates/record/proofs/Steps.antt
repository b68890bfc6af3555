-- What the code finds step by step is what the definitions say in one line.
use mathlib.Core.Path.{◌≡◌, refl, sym, ap, ◌∙◌}
use mathlib.Core.Bool.{Bool, true, false, false≢true, ◌&&◌, and-eq-true_iff}
use mathlib.Core.List.{List, [], ◌∷◌, ◌++◌}
use Prim.Native.Nat.{ℕ, ◌<◌, ◌≤◌}
use Rattle.std.specs.Cmp.Lexicographic.{pointwise}
use lib.Dec.{eqb}
use lib.ListN.{length, get_or, take, drop}
use lib.Seq.{length-take-le}
use borrow.Author.Tests.{le-leb, lt-leb, eq-eqb, ne_eqb, eqb-true}
use Rattle.answers.specs.Answer.{Answer, given, refused, then, done, left_in}
use Rattle.answers.specs.Conditions.{asking}
use Rattle.answers.proofs.Conditions.{then_asking, then_given}
use Rattle.calendar_range.specs.Range.{year_conditions}
use Rattle.record_fields.specs.declared.Fields.{Fields}
use Rattle.record_fields.specs.Tagged.{Bytes, field_bytes, numbers_of, tags_at, numbers_at, same}
use Rattle.record_fields.specs.Fields.{layout, size}
use Rattle.record_fields.specs.Room.{fields_of}
use Rattle.record_fields.proofs.YearFields.{all_bytes}
use Rattle.record.specs.Record.{write_of, read_of}
use Rattle.record.specs.Room.{accepted_of}
use Rattle.record.proofs.Same.{one_same, not_same, pointwise_same}
use Rattle.record.proofs.OwnBytes.{tags_told}
use Rattle.record.proofs.Refusals.{write_refused_6, read_refused_6, read_refused_7}

-- ---- writing

-- a record's bytes copied to the front
pub copied_front : (bytes buffer front : List ℕ) (x : Fields) → bytes ≡ field_bytes layout x → front ≡ bytes → front ++ drop size buffer ≡ field_bytes layout x ++ drop size buffer
copied_front bytes buffer front x e f = rw (f, e)

-- .. where there is room for them
pub room_for : (bytes buffer : List ℕ) (x : Fields) → bytes ≡ field_bytes layout x → size ≤ length buffer → length (take size buffer) ≡ length bytes
room_for bytes buffer x e room = length-take-le size buffer room ∙ sym (all_bytes x) ∙ sym (ap length e)

-- a buffer that is too short is left as it was ..
module _ (c y : ℕ) (buffer : List ℕ) (short : length buffer < 25) where
  pub short_refusal : refused 6 ≡ done (write_of c y buffer)
  short_refusal = sym (ap done ((write_refused_6 c y buffer).if (lt-leb _ _ short)))

  pub short_left : buffer ≡ left_in buffer (write_of c y buffer)
  short_left = sym (ap (left_in buffer) ((write_refused_6 c y buffer).if (lt-leb _ _ short)))

module _ (c y : ℕ) (buffer : List ℕ) (room : 25 ≤ length buffer) where
  -- .. and into one with room, what is written follows from the fields or their refusal
  write_then : write_of c y buffer ≡ then (fields_of c y) (λ x. given (field_bytes layout x ++ drop size buffer))
  unfolding asking write_of fields_of
  write_then = rw (le-leb size (length buffer) room) (then_given (year_conditions c y) _ (λ x. field_bytes layout x ++ drop size buffer))

  module _ (n : ℕ) (e : refused n ≡ fields_of c y) where
    pub refused_done : refused n ≡ done (write_of c y buffer)
    refused_done = rw (write_then, ← e)

    pub refused_left : buffer ≡ left_in buffer (write_of c y buffer)
    refused_left = rw (write_then, ← e)

  module _ (x : Fields) (e : given x ≡ fields_of c y) where
    pub given_done : given tt ≡ done (write_of c y buffer)
    given_done = rw (write_then, ← e)

    pub given_left : (bytes front : List ℕ) → bytes ≡ field_bytes layout x → front ≡ bytes → front ++ drop 25 buffer ≡ left_in buffer (write_of c y buffer)
    given_left bytes front is_bytes is_front = rw (write_then, ← e) (copied_front bytes buffer front x is_bytes is_front)

pub ruleset writing = (short_refusal, short_left, refused_done, refused_left, given_done, given_left)

-- ---- reading

pub other_length : (bytes : List ℕ) → (length bytes ≡ 25 → ⊥) → refused 6 ≡ read_of bytes
other_length bytes other = sym ((read_refused_6 bytes).if (ne_eqb _ _ other))

-- 25 bytes with a record's tags are read by their numbers
tagged : (bytes : List ℕ) → length bytes ≡ size → tags_at layout bytes 0 ≡ true → read_of bytes ≡ accepted_of (numbers_at layout bytes 0)
unfolding asking read_of accepted_of fields_of
tagged bytes all tags =
    let numbers : List ℕ = numbers_at layout bytes 0 in
    rw (eq-eqb (length bytes) size all, tags)
    (then_asking (year_conditions (get_or numbers 0 0) (get_or numbers 1 0)) _ (λ x. (same numbers (numbers_of layout x), 8) ∷ []) (λ x. x))

-- which comparing them with their numbers written anew tells
module _ (bytes anew : List ℕ) (x : Fields) (are : Bytes bytes) (all : length bytes ≡ 25) (found : numbers_of layout x ≡ numbers_at layout bytes 0) (written : anew ≡ field_bytes layout x) where
  compared : pointwise eqb bytes anew ≡ tags_at layout bytes 0
  compared = pointwise_same bytes anew ∙ ap (same bytes) written ∙ tags_told bytes x are all found

  pub wrong_tags : pointwise eqb bytes anew ≡ false → refused 7 ≡ read_of bytes
  wrong_tags differ = sym ((read_refused_7 bytes).if (eq-eqb _ _ all, sym compared ∙ differ))

  pub right_tags : (answer : Answer Fields) → pointwise eqb bytes anew ≡ true → answer ≡ accepted_of (numbers_of layout x) → answer ≡ read_of bytes
  right_tags answer agree told = told ∙ ap accepted_of found ∙ sym (tagged bytes all (sym compared ∙ agree))

-- ---- the fields found

-- each field of a record is one of its numbers
one_fields : (x z : Fields) → numbers_of layout x ≡ numbers_of layout z → x ≡ z
unfolding numbers_of
one_fields x z e = λ i. record { calendar = get_or (e i) 0 0; year = get_or (e i) 1 0; first_day = get_or (e i) 2 0; leap = get_or (e i) 3 0; long_months = get_or (e i) 4 0 }

-- `==` at fields
abbrev fields_eq : Fields → Fields → Bool
fields_eq x z = eqb x.calendar z.calendar && (eqb x.year z.year && (eqb x.first_day z.first_day && (eqb x.leap z.leap && eqb x.long_months z.long_months)))

fields_agree : (x z : Fields) → fields_eq x z ≡ true → numbers_of layout x ≡ numbers_of layout z
unfolding numbers_of
fields_agree x z e =
    let (calendar, e) = (and-eq-true_iff (eqb x.calendar z.calendar) _).0 e in
    let (year, e) = (and-eq-true_iff (eqb x.year z.year) _).0 e in
    let (first, e) = (and-eq-true_iff (eqb x.first_day z.first_day) _).0 e in
    let (leap, long) = (and-eq-true_iff (eqb x.leap z.leap) _).0 e in
    rw (eqb-true _ _ calendar, eqb-true _ _ year, eqb-true _ _ first, eqb-true _ _ leap, eqb-true _ _ long)

fields_differ : (x z : Fields) → fields_eq x z ≡ false → numbers_of layout x ≡ numbers_of layout z → ⊥
fields_differ x z e f =
    let same : x ≡ z = one_fields x z f in
    let itself : fields_eq z z ≡ true = rw (eq-eqb z.calendar z.calendar refl, eq-eqb z.year z.year refl, eq-eqb z.first_day z.first_day refl, eq-eqb z.leap z.leap refl, eq-eqb z.long_months z.long_months refl) in
    false≢true (sym e ∙ ap (λ x. fields_eq x z) same ∙ itself)

module _ (found : Fields) where
  abbrev numbers : List ℕ
  numbers = numbers_of layout found

  -- they are accepted as the rule's fields are given or refused ..
  accepted_then : accepted_of numbers ≡ then (fields_of found.calendar found.year) (λ x. asking ((same numbers (numbers_of layout x), 8) ∷ []) x)
  unfolding accepted_of numbers_of
  accepted_then = refl

  pub accepted_refused : (n : ℕ) → refused n ≡ fields_of found.calendar found.year → refused n ≡ accepted_of numbers
  accepted_refused n e = rw (accepted_then, ← e)

  -- .. and if they are those
  module _ (own : Fields) (e : given own ≡ fields_of found.calendar found.year) where
    pub differs : fields_eq found own ≡ false → refused 8 ≡ accepted_of numbers
    unfolding asking
    differs differ = rw (accepted_then, ← e, not_same numbers (numbers_of layout own) (fields_differ found own differ))

    pub agrees : fields_eq found own ≡ true → given own ≡ accepted_of numbers
    unfolding asking
    agrees agree = rw (accepted_then, ← e, one_same numbers (numbers_of layout own) (fields_agree found own agree))

pub ruleset accepting = (accepted_refused, differs, agrees)
