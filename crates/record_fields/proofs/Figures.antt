-- The fields and bytes of 01's worked record.
use mathlib.Core.Path.{◌≡◌, refl, ap}
use mathlib.Core.List.{List, [], ◌∷◌}
use Prim.Native.Nat.{ℕ}
use Rattle.calendar_year.proofs.Figures.{months_1522, months_643}
use Rattle.record_fields.specs.declared.Fields.{Fields}
use Rattle.record_fields.specs.Tagged.{bytes_of, field_bytes}
use Rattle.record_fields.specs.Fields.{layout, long_bit, long_months_of, size, fields_in}
use Rattle.record_fields.proofs.CoveredFields.{fields_listed}

abbrev pub fields : ℕ → ℕ → ℕ → ℕ → ℕ → Fields
fields calendar year first leap long = record { calendar = calendar; year = year; first_day = first; leap = leap; long_months = long }

size_25 : size ≡ 25
size_25 = refl

-- ---- 1522

pub fields_1522 : fields_in 1 1522 ≡ fields 1 1522 2276996 0 3402
unfolding long_months_of long_bit
fields_1522 = fields_listed 1 1522 _ months_1522

-- as 01 prints it
abbrev pub printed_1522 : List ℕ
printed_1522 =
    0x01 ∷ 0x00 ∷ 0x01 ∷ 0x01
    ∷ 0x02 ∷ 0x00 ∷ 0x02 ∷ 0x05 ∷ 0xF2
    ∷ 0x03 ∷ 0x00 ∷ 0x04 ∷ 0x00 ∷ 0x22 ∷ 0xBE ∷ 0x84
    ∷ 0x04 ∷ 0x00 ∷ 0x01 ∷ 0x00
    ∷ 0x05 ∷ 0x00 ∷ 0x02 ∷ 0x0D ∷ 0x4A ∷ []

pub record_1522 : field_bytes layout (fields_in 1 1522) ≡ printed_1522
unfolding field_bytes bytes_of
record_1522 = ap (field_bytes layout) fields_1522

-- ---- 643, a year of thirteen months

fields_643 : fields_in 2 643 ≡ fields 2 643 1955939 7 2730
unfolding long_months_of long_bit
fields_643 = fields_listed 2 643 _ months_643
