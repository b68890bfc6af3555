-- The month that has a day or a mid-term, and month 1 of a year (01, "Months and leap", from "For both" on).
use Rattle.std.specs.Prelude.{ℕ, ◌+◌}
use Rattle.numbers.specs.Spans.{Holds, span_of}
use Rattle.months_rules.specs.declared.Begun.{Begun}
use Rattle.months_rules.specs.Rules.{Rules, mid}

-- a month runs from its new moon's day to the eve of the next: month k has day d
abbrev pub Has : Rules → ℕ → ℕ → Type 0
Has r k d = Holds r.start k d

-- a mid-term belongs to the month that has its day
abbrev pub HasTerm : Rules → ℕ → ℕ → Type 0
HasTerm r k j = Has r k (mid r j)

-- the month that has a day
abbrev pub month_of : Rules → ℕ → ℕ
month_of r d = span_of r.start d

-- .. and that which has a mid-term
abbrev pub month_with : Rules → ℕ → ℕ
month_with r j = month_of r (mid r j)

-- a month with its first day
abbrev pub begun : Rules → ℕ → Begun
begun r k = record { month = k; start = r.start k }

-- month 1 of year y has that year's Rain Water
unfoldable pub first_month : Rules → ℕ → ℕ
first_month r y = month_with r (r.rain_water y)

-- its first day, and the day on which its successor starts
abbrev pub first_day_of : Rules → ℕ → ℕ
first_day_of r y = r.start (first_month r y)

abbrev pub next_first_day : Rules → ℕ → ℕ
next_first_day r y = first_day_of r (y + 1)
