-- A record is accepted exactly if it is the rule's own: what is written is read back, a year has one spelling, and no record with one byte changed is a record.
use mathlib.Core.Path.{◌≡◌, refl, sym, ap, subst, ◌∙◌}
use mathlib.Core.Bool.{Bool, true, false}
use mathlib.Core.List.{List, ◌++◌}
use Prim.Native.Nat.{ℕ, ◌+◌, ◌<◌, ◌≤◌}
use native.Mathlib.Omega.{arith}
use lib.ListN.{length, get_or, take, drop, set}
use lib.Seq.{take_at, get_or-set_same, get_or-set_other}
use lib.Dec.{eqb, ltb}
use borrow.Author.Tests.{le-leb, eq-eqb, eqb-true, eqb-false, ltb-true, ltb-false}
use Rattle.answers.specs.Answer.{given}
use Rattle.answers.specs.Conditions.{Exactly}
use Rattle.months_rules.specs.Rules.{day_number}
use Rattle.months_rules.specs.FirstMonths.{first_day_of}
use Rattle.calendar_range.specs.Range.{is_calendar, numbered, rules_for, is_covered}
use Rattle.calendar_range.proofs.Covered.{covered_year_told}
use Rattle.calendar_range.proofs.Numbers.{no_year_of_both}
use Rattle.calendar_year.proofs.FirstDays.{one_beginning}
use Rattle.record_fields.specs.declared.Fields.{Fields}
use Rattle.record_fields.specs.Tagged.{Bytes, field_bytes, numbers_of, number_at, tags_at, numbers_at}
use Rattle.record_fields.specs.Fields.{layout, size, fields_in}
use Rattle.record_fields.proofs.YearFields.{Small, all_bytes}
use Rattle.record_fields.proofs.CoveredFields.{fields_small}
use Rattle.record.specs.Record.{write_of, read_of, IsRecord}
use Rattle.record.proofs.Numbers.{one_number}
use Rattle.record.proofs.Same.{same_one, one_same}
use Rattle.record.proofs.OwnBytes.{own_bytes, own_tags, own_numbers}
use Rattle.record.proofs.Refusals.{write_given, read_given}

-- ---- accepted exactly if it is the rule's own

module _ (bytes : List ℕ) (x : Fields) where
  abbrev calendar : ℕ
  calendar = get_or (numbers_at layout bytes 0) 0 0

  abbrev year : ℕ
  year = get_or (numbers_at layout bytes 0) 1 0

  its_calendar_lem : numbers_at layout bytes 0 ≡ numbers_of layout x → calendar ≡ x.calendar
  unfolding numbers_of
  its_calendar_lem e = ap (λ l. get_or l 0 0) e

  its_year : numbers_at layout bytes 0 ≡ numbers_of layout x → year ≡ x.year
  unfolding numbers_of
  its_year e = ap (λ l. get_or l 1 0) e

  is_small : IsRecord bytes x → Small x
  is_small h = subst Small h.own (fields_small x.calendar x.year h.calendar h.covered)

  its_numbers : IsRecord bytes x → numbers_at layout bytes 0 ≡ numbers_of layout x
  its_numbers h = ap (λ l. numbers_at layout l 0) h.written ∙ own_numbers x (is_small h)

  its_length : IsRecord bytes x → length bytes ≡ size
  its_length h = ap length h.written ∙ all_bytes x

  accepted_if : IsRecord bytes x → read_of bytes ≡ given x
  accepted_if h =
      let tags : tags_at layout bytes 0 ≡ true = ap (λ l. tags_at layout l 0) h.written ∙ own_tags x in
      let numbers = its_numbers h in
      let own : fields_in calendar year ≡ x = rw (its_calendar_lem numbers, its_year numbers) h.own in
      let covered : is_covered (rules_for calendar) year ≡ true = rw (its_calendar_lem numbers, its_year numbers) h.covered in
      (read_given bytes x).if
      ((eq-eqb _ _ (its_length h), (tags, (ap is_calendar (its_calendar_lem numbers) ∙ h.calendar, (covered, (one_same _ _ (numbers ∙ ap (numbers_of layout) (sym own)), tt))))), own)

  accepted_only : Bytes bytes → read_of bytes ≡ given x → IsRecord bytes x
  accepted_only are e =
      let ((length, (tags, (calendar, (covered, (agrees, _))))), own) = (read_given bytes x).only_if e in
      let numbers : numbers_at layout bytes 0 ≡ numbers_of layout x = same_one _ _ agrees ∙ ap (numbers_of layout) own in
      record {
        calendar = rw (its_calendar_lem numbers) at calendar;
        covered = rw (its_calendar_lem numbers, its_year numbers) at covered;
        own = rw (its_calendar_lem numbers, its_year numbers) at own;
        written = own_bytes bytes x are (eqb-true _ _ length) tags numbers;
      }

  -- bytes are read with these fields exactly if they are the record of a covered year that has them
  pub accepted : Bytes bytes → Exactly (read_of bytes ≡ given x) (IsRecord bytes x)
  accepted are = record { if = accepted_if; only_if = accepted_only are }

-- ---- written and read

-- what is written is read back to the fields that were written
pub read_back : (c y : ℕ) (buffer left : List ℕ) → write_of c y buffer ≡ given left → read_of (take size left) ≡ given (fields_in c y)
unfolding fields_in
read_back c y buffer left e =
    let ((room, (calendar, (covered, _))), gives) = (write_given c y buffer left).only_if e in
    let front : take size left ≡ field_bytes layout (fields_in c y) = ap (take size) (sym gives) ∙ take_at (field_bytes layout (fields_in c y)) (drop size buffer) size (all_bytes (fields_in c y)) in
    accepted_if (take size left) (fields_in c y) (record { calendar = calendar; covered = covered; own = refl; written = front })

-- what is accepted is what would be written
pub written_again : (bytes : List ℕ) (x : Fields) (buffer : List ℕ) → Bytes bytes → read_of bytes ≡ given x → size ≤ length buffer → write_of x.calendar x.year buffer ≡ given (bytes ++ drop size buffer)
written_again bytes x buffer are e room =
    let h = accepted_only bytes x are e in
    let own : field_bytes layout (fields_in x.calendar x.year) ≡ bytes = ap (field_bytes layout) h.own ∙ sym h.written in
    (write_given x.calendar x.year buffer (bytes ++ drop size buffer)).if
    ((le-leb size (length buffer) room, (h.calendar, (h.covered, tt))), ap (λ l. l ++ drop size buffer) own)

-- ---- two records

module _ (a b : List ℕ) (x z : Fields) (is_a : IsRecord a x) (is_b : IsRecord b z) where
  -- of one calendar and year they are one
  one_record : x.calendar ≡ z.calendar → x.year ≡ z.year → a ≡ b
  one_record c y = is_a.written ∙ ap (field_bytes layout) (sym is_a.own ∙ ap (λ c. fields_in c x.year) c ∙ ap (fields_in z.calendar) y ∙ is_b.own) ∙ sym is_b.written

  module _ (place : ℕ) (elsewhere : (i : ℕ) → (i ≡ place → ⊥) → get_or a i 0 ≡ get_or b i 0) where
    -- a number that ends before the place, or begins behind it, is in both
    before : (from w : ℕ) → from + w ≤ place → number_at a from w ≡ number_at b from w
    before from w h = one_number a b from w (λ i low. elsewhere (from + i) (λ e. omega (arith, e, low, h)))

    behind : (from w : ℕ) → place < from → number_at a from w ≡ number_at b from w
    behind from w h = one_number a b from w (λ i low. elsewhere (from + i) (λ e. omega (arith, e, h)))

    -- the i-th number of both, if it is the same in the bytes
    one_field : (i : ℕ) → get_or (numbers_at layout a 0) i 0 ≡ get_or (numbers_at layout b 0) i 0 → get_or (numbers_of layout x) i 0 ≡ get_or (numbers_of layout z) i 0
    one_field i e = ap (λ l. get_or l i 0) (sym (its_numbers a x is_a)) ∙ e ∙ ap (λ l. get_or l i 0) (its_numbers b z is_b)

    same_calendar : number_at a 3 1 ≡ number_at b 3 1 → x.calendar ≡ z.calendar
    unfolding numbers_at numbers_of
    same_calendar e = one_field 0 e

    same_year : number_at a 7 2 ≡ number_at b 7 2 → x.year ≡ z.year
    unfolding numbers_at numbers_of
    same_year e = one_field 1 e

    same_day : number_at a 12 4 ≡ number_at b 12 4 → x.first_day ≡ z.first_day
    unfolding numbers_at numbers_of
    same_day e = one_field 2 e

    -- a calendar and a first day have one year
    one_year : x.calendar ≡ z.calendar → x.first_day ≡ z.first_day → x.year ≡ z.year
    unfolding fields_in
    one_year c day =
        let first : day_number (rules_for x.calendar) (first_day_of (rules_for x.calendar) x.year) ≡ x.first_day = ap (λ (x : Fields). x.first_day) is_a.own in
        let second : day_number (rules_for z.calendar) (first_day_of (rules_for z.calendar) z.year) ≡ z.first_day = ap (λ (x : Fields). x.first_day) is_b.own in
        one_beginning (numbered x.calendar) x.year z.year (covered_year_told _ _ is_a.covered) (covered_year_told _ _ (rw (sym c) at is_b.covered))
        (first ∙ day ∙ sym (rw (sym c) at second))

    -- two records that agree in all places but one are one record
    pub one_apart : a ≡ b
    one_apart = by_place (ltb place 4) (ltb place 9) refl refl
      where
        by_place : (f g : Bool) → ltb place 4 ≡ f → ltb place 9 ≡ g → a ≡ b
        by_place true g e h =
            let year = same_year (behind 7 2 (omega (arith, ltb-true place 4 e))) in
            one_record (no_year_of_both x.calendar z.calendar x.year is_a.calendar is_b.calendar is_a.covered (rw (sym year) at is_b.covered)) year
        by_place false true e h =
            let calendar = same_calendar (before 3 1 (omega (arith, ltb-false place 4 e))) in
            one_record calendar (one_year calendar (same_day (behind 12 4 (omega (arith, ltb-true place 9 h)))))
        by_place false false e h =
            one_record (same_calendar (before 3 1 (omega (arith, ltb-false place 4 e)))) (same_year (before 7 2 (omega (arith, ltb-false place 9 h))))

-- a year has one spelling
pub one_spelling : (a b : List ℕ) (x z : Fields) → Bytes a → Bytes b → read_of a ≡ given x → read_of b ≡ given z → x.calendar ≡ z.calendar → x.year ≡ z.year → a ≡ b
one_spelling a b x z are_a are_b e f = one_record a b x z (accepted_only a x are_a e) (accepted_only b z are_b f)

-- ---- damage

module _ (bytes : List ℕ) (place byte : ℕ) where
  still_bytes : Bytes bytes → place < length bytes → byte < 256 → Bytes (set bytes place byte)
  still_bytes are inside small i = by_place (eqb i place) refl
    where
      by_place : (b : Bool) → eqb i place ≡ b → get_or (set bytes place byte) i 0 < 256
      by_place true e = rw (eqb-true i place e, get_or-set_same bytes place byte 0 inside) small
      by_place false e = rw (get_or-set_other bytes place i byte 0 (eqb-false i place e)) (are i)

  -- no record with one byte changed is accepted
  pub damage_shows : (x z : Fields) → Bytes bytes → read_of bytes ≡ given x → place < size → byte < 256 → (get_or bytes place 0 ≡ byte → ⊥) → read_of (set bytes place byte) ≡ given z → ⊥
  damage_shows x z are e inside small changed f =
      let is = accepted_only bytes x are e in
      let within : place < length bytes = rw (its_length bytes x is) inside in
      let damaged = set bytes place byte in
      let same : bytes ≡ damaged = one_apart bytes damaged x z is (accepted_only damaged z (still_bytes are within small) f) place (λ i other. sym (get_or-set_other bytes place i byte 0 other)) in
      changed (ap (λ l. get_or l place 0) same ∙ get_or-set_same bytes place byte 0 within)
