-- What an inner function finds. No rule of the record.
use Rattle.std.specs.Prelude.{ℕ}
use Rattle.answers.specs.Answer.{Answer}
use Rattle.answers.specs.Conditions.{asking}
use Rattle.calendar_range.specs.Range.{year_conditions}
use Rattle.record_fields.specs.declared.Fields.{Fields}
use Rattle.record_fields.specs.Fields.{fields_in}

-- the fields of a year, or the refusal
unfoldable pub fields_of : ℕ → ℕ → Answer Fields
fields_of c y = asking (year_conditions c y) (fields_in c y)
