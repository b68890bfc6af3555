-- The year record: when it is written and accepted (01, "The year record" and "Refusal numbers").
use Rattle.std.specs.Prelude.{◌≡◌, Bool, true, List, [], ◌∷◌, ◌++◌, ℕ, length, get_or, drop, eqb, leb}
use Rattle.answers.specs.Answer.{Answer}
use Rattle.answers.specs.Conditions.{asking}
use Rattle.calendar_range.specs.Range.{is_calendar, rules_for, is_covered, year_conditions}
use Rattle.record_fields.specs.declared.Fields.{Fields}
use Rattle.record_fields.specs.Tagged.{field_bytes, numbers_of, tags_at, numbers_at, same}
use Rattle.record_fields.specs.Fields.{layout, size, fields_in}

-- what a buffer holds when the record of a year has been written: "the first 25 bytes and no more"
abbrev pub write_conditions : ℕ → ℕ → List ℕ → List (Bool × ℕ)
write_conditions c y buffer =
    (leb size (length buffer), 6) ∷
    year_conditions c y

unfoldable pub write_of : ℕ → ℕ → List ℕ → Answer (List ℕ)
write_of c y buffer = asking (write_conditions c y buffer) (field_bytes layout (fields_in c y) ++ drop size buffer)

-- the rule's fields for these numbers, of which the first two are a calendar and a year
abbrev pub fields_for : List ℕ → Fields
fields_for numbers = fields_in (get_or numbers 0 0) (get_or numbers 1 0)

-- the fields of bytes that are a record
abbrev pub read_conditions : List ℕ → List (Bool × ℕ)
read_conditions bytes =
    let numbers : List ℕ = numbers_at layout bytes 0 in
    (eqb (length bytes) size, 6) ∷
    (tags_at layout bytes 0, 7) ∷
    year_conditions (get_or numbers 0 0) (get_or numbers 1 0) ++
    (same numbers (numbers_of layout (fields_for numbers)), 8) ∷ []

unfoldable pub read_of : List ℕ → Answer Fields
read_of bytes = asking (read_conditions bytes) (fields_for (numbers_at layout bytes 0))

-- bytes are the record of a covered year, with these fields
pub record IsRecord (bytes : List ℕ) (x : Fields) : Type 0 where
  pub calendar : is_calendar x.calendar ≡ true
  pub covered : is_covered (rules_for x.calendar) x.year ≡ true
  pub own : fields_in x.calendar x.year ≡ x
  pub written : bytes ≡ field_bytes layout x
