-- What an inner function finds. No rule of the record.
use Rattle.std.specs.Prelude.{List, [], ◌∷◌, ℕ, get_or}
use Rattle.answers.specs.Answer.{Answer, then}
use Rattle.answers.specs.Conditions.{asking}
use Rattle.record_fields.specs.declared.Fields.{Fields}
use Rattle.record_fields.specs.Tagged.{numbers_of, same}
use Rattle.record_fields.specs.Fields.{layout}
use Rattle.record_fields.specs.Room.{fields_of}

-- the fields with these numbers, if they are the rule's own for their calendar and year
unfoldable pub accepted_of : List ℕ → Answer Fields
accepted_of numbers = then (fields_of (get_or numbers 0 0) (get_or numbers 1 0)) (λ x. asking ((same numbers (numbers_of layout x), 8) ∷ []) x)
