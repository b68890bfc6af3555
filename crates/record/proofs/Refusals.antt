-- When a record is written and read, and when either is refused, exactly (01, "Refusal numbers"): the first condition that fails names the refusal.
use mathlib.Core.Path.{◌≡◌}
use mathlib.Core.Bool.{Bool, true, false}
use mathlib.Core.List.{List, ◌++◌}
use Prim.Native.Nat.{ℕ}
use lib.ListN.{length, get_or, drop}
use lib.Dec.{eqb, leb}
use Rattle.answers.specs.Answer.{given, refused}
use Rattle.answers.specs.Conditions.{AllHold, FirstFails, Exactly}
use Rattle.answers.proofs.Conditions.{given_exactly, refused_exactly}
use Rattle.calendar_range.specs.Range.{is_calendar, rules_for, is_covered}
use Rattle.record_fields.specs.declared.Fields.{Fields}
use Rattle.record_fields.specs.Tagged.{field_bytes, numbers_of, tags_at, numbers_at, same}
use Rattle.record_fields.specs.Fields.{layout, size, fields_in}
use Rattle.record.specs.Record.{write_conditions, write_of, fields_for, read_conditions, read_of}

-- ---- writing

module _ (c y : ℕ) (buffer : List ℕ) where
  abbrev has_room : Bool
  has_room = leb size (length buffer)

  pub write_given : (l : List ℕ) → Exactly (write_of c y buffer ≡ given l) (AllHold (write_conditions c y buffer) × (field_bytes layout (fields_in c y) ++ drop size buffer ≡ l))
  unfolding write_of
  write_given l = given_exactly _ _ l

  pub write_refused : (n : ℕ) → Exactly (write_of c y buffer ≡ refused n) (FirstFails (write_conditions c y buffer) n)
  unfolding write_of
  write_refused n = refused_exactly _ _ n

  pub write_refused_6 : Exactly (write_of c y buffer ≡ refused 6) (has_room ≡ false)
  write_refused_6 = write_refused 6

  pub write_refused_1 : Exactly (write_of c y buffer ≡ refused 1) ((has_room ≡ true) × (is_calendar c ≡ false))
  write_refused_1 = write_refused 1

  pub write_refused_2 : Exactly (write_of c y buffer ≡ refused 2) ((has_room ≡ true) × ((is_calendar c ≡ true) × (is_covered (rules_for c) y ≡ false)))
  write_refused_2 = write_refused 2

-- ---- reading

module _ (bytes : List ℕ) where
  abbrev numbers : List ℕ
  numbers = numbers_at layout bytes 0

  abbrev calendar : ℕ
  calendar = get_or numbers 0 0

  abbrev has_length : Bool
  has_length = eqb (length bytes) size

  abbrev has_tags : Bool
  has_tags = tags_at layout bytes 0

  abbrev has_year : Bool
  has_year = is_covered (rules_for calendar) (get_or numbers 1 0)

  abbrev has_own : Bool
  has_own = same numbers (numbers_of layout (fields_for numbers))

  pub read_given : (x : Fields) → Exactly (read_of bytes ≡ given x) (AllHold (read_conditions bytes) × (fields_for numbers ≡ x))
  unfolding read_of
  read_given x = given_exactly _ _ x

  pub read_refused : (n : ℕ) → Exactly (read_of bytes ≡ refused n) (FirstFails (read_conditions bytes) n)
  unfolding read_of
  read_refused n = refused_exactly _ _ n

  pub read_refused_6 : Exactly (read_of bytes ≡ refused 6) (has_length ≡ false)
  read_refused_6 = read_refused 6

  pub read_refused_7 : Exactly (read_of bytes ≡ refused 7) ((has_length ≡ true) × (has_tags ≡ false))
  read_refused_7 = read_refused 7

  pub read_refused_1 : Exactly (read_of bytes ≡ refused 1) ((has_length ≡ true) × ((has_tags ≡ true) × (is_calendar calendar ≡ false)))
  read_refused_1 = read_refused 1

  pub read_refused_2 : Exactly (read_of bytes ≡ refused 2) ((has_length ≡ true) × ((has_tags ≡ true) × ((is_calendar calendar ≡ true) × (has_year ≡ false))))
  read_refused_2 = read_refused 2

  pub read_refused_8 : Exactly (read_of bytes ≡ refused 8) ((has_length ≡ true) × ((has_tags ≡ true) × ((is_calendar calendar ≡ true) × ((has_year ≡ true) × (has_own ≡ false)))))
  read_refused_8 = read_refused 8
