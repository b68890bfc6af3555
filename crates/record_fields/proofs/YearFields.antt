-- The bytes of the year record's fields, and that they fit.
use mathlib.Core.Path.{◌≡◌, refl}
use mathlib.Core.List.{[], ◌∷◌}
use Prim.Native.Nat.{◌/◌, ◌%◌, ◌<◌}
use native.Mathlib.Nat.{mod-eq_of_lt}
use native.Mathlib.Omega.{arith}
use lib.ListN.{length}
use Rattle.record_fields.specs.declared.Fields.{Fields}
use Rattle.record_fields.specs.Tagged.{bytes_of, field_bytes}
use Rattle.record_fields.specs.Fields.{layout, size}

-- a record's numbers fit their bytes
pub record Small (x : Fields) : Type 0 where
  pub calendar : x.calendar < 256
  pub year : x.year < 65536
  pub first_day : x.first_day < 4294967296
  pub leap : x.leap < 256
  pub long_months : x.long_months < 65536

-- so that a record spelled out cuts no high byte
pub bytes_told : (x : Fields) → Small x →
    1 ∷ 0 ∷ 1 ∷ x.calendar
    ∷ 2 ∷ 0 ∷ 2 ∷ x.year / 256 ∷ x.year % 256
    ∷ 3 ∷ 0 ∷ 4 ∷ x.first_day / 256 / 256 / 256 ∷ x.first_day / 256 / 256 % 256 ∷ x.first_day / 256 % 256 ∷ x.first_day % 256
    ∷ 4 ∷ 0 ∷ 1 ∷ x.leap
    ∷ 5 ∷ 0 ∷ 2 ∷ x.long_months / 256 ∷ x.long_months % 256 ∷ []
    ≡ field_bytes layout x
unfolding field_bytes bytes_of
bytes_told x small =
    let high_year : x.year / 256 % 256 ≡ x.year / 256 = omega (arith, small.year) in
    let high_first : x.first_day / 256 / 256 / 256 % 256 ≡ x.first_day / 256 / 256 / 256 = omega (arith, small.first_day) in
    let high_long : x.long_months / 256 % 256 ≡ x.long_months / 256 = omega (arith, small.long_months) in
    rw (mod-eq_of_lt small.calendar, high_year, high_first, mod-eq_of_lt small.leap, high_long)

pub all_bytes : (x : Fields) → length (field_bytes layout x) ≡ size
unfolding field_bytes bytes_of
all_bytes x = refl
