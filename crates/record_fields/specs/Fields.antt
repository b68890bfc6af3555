-- The fields of the year record, and what the rules give each of them (01, "The year record").
use Rattle.std.specs.Prelude.{true, false, List, [], ◌∷◌, ℕ, ◌+◌, ◌*◌, eqb}
use Rattle.months_rules.specs.Rules.{Rules, day_number}
use Rattle.months_rules.specs.FirstMonths.{first_day_of}
use Rattle.calendar_range.specs.Range.{rules_for}
use Rattle.calendar_year.specs.declared.Month.{Month}
use Rattle.calendar_year.specs.Years.{year_in}
use Rattle.record_fields.specs.declared.Fields.{Fields}
use Rattle.record_fields.specs.Tagged.{Field, size_of}

abbrev field : ℕ → ℕ → (Fields → ℕ) → Field
field tag width number = record { tag = tag; width = width; number = number }

-- the fields of a record by tag, width and number, in "exactly this order"
abbrev pub layout : List Field
layout = field 1 1 (λ x. x.calendar) ∷ field 2 2 (λ x. x.year) ∷ field 3 4 (λ x. x.first_day) ∷ field 4 1 (λ x. x.leap) ∷ field 5 2 (λ x. x.long_months) ∷ []

-- 25 bytes
abbrev pub size : ℕ
size = size_of layout

-- 1 for a long month, of 30 days
unfoldable pub long_bit : Month → ℕ
long_bit m = elim (eqb m.length 30) [ true ↦ 1 | false ↦ 0 ]

-- the long months: "lowest bit the first month in order", and a place that is not used gives 0
unfoldable pub long_months_of : List Month → ℕ
long_months_of [] = 0
long_months_of (m ∷ ms) = long_bit m + 2 * long_months_of ms

-- the fields of year y of calendar c
unfoldable pub fields_in : ℕ → ℕ → Fields
fields_in c y =
    let r : Rules = rules_for c in
    record { calendar = c; year = y; first_day = day_number r (first_day_of r y); leap = (year_in r y).leap; long_months = long_months_of (year_in r y).months }
