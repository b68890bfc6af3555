-- The fields of a year or their refusal, as the code answers them.
use mathlib.Core.Path.{◌≡◌}
use Prim.Native.Nat.{ℕ}
use Rattle.answers.specs.Answer.{given, refused, then}
use Rattle.answers.specs.Conditions.{AllHold, Exactly}
use Rattle.answers.proofs.Conditions.{then_given, given_exactly}
use Rattle.calendar_range.specs.Range.{year_conditions}
use Rattle.calendar_year.specs.Years.{year_of}
use Rattle.record_fields.specs.declared.Fields.{Fields}
use Rattle.record_fields.specs.Fields.{fields_in}
use Rattle.record_fields.specs.Room.{fields_of}

module _ (c y : ℕ) where
  pub fields_known : (x : Fields) → Exactly (fields_of c y ≡ given x) (AllHold (year_conditions c y) × (fields_in c y ≡ x))
  unfolding fields_of
  fields_known x = given_exactly _ _ x

  -- they are refused as the year is
  pub fields_then : fields_of c y ≡ then (year_of c y) (λ _. given (fields_in c y))
  unfolding year_of fields_of
  fields_then = then_given (year_conditions c y) _ (λ _. fields_in c y)

  pub fields_refused : (n : ℕ) → refused n ≡ year_of c y → refused n ≡ fields_of c y
  fields_refused n e = rw (fields_then, ← e)
