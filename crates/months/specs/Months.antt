-- Months of a year, leap months and their numbers (01, "Months and leap", to its end).
use Rattle.std.specs.Prelude.{Bool, true, false, ℕ, ◌+◌, ◌-◌, ◌≤◌, ltb}
use Rattle.numbers.specs.Spans.{last_begun}
use Rattle.cycles.specs.Cycles.{last_by}
use Rattle.months_rules.specs.Rules.{Rules, mid, term_number, days_at}
use Rattle.months_rules.specs.FirstMonths.{first_month}

-- how many days month k has
abbrev pub month_length : Rules → ℕ → ℕ
month_length r k = r.start (k + 1) - r.start k

-- the year ends before the next year's month 1
abbrev pub month_count : Rules → ℕ → ℕ
month_count r y = first_month r (y + 1) - first_month r y

-- the year of month k: of the years up to the last covered one, the last whose month 1 is not after it
unfoldable pub year_with : Rules → ℕ → ℕ
year_with r k = last_begun (first_month r) k r.last_year

-- the last mid-term that falls by the last day of month k
unfoldable pub last_term : Rules → ℕ → ℕ
last_term r k = last_by r.terms (r.start (k + 1) - 1)

-- a month without a mid-term is leap: the last one by its end falls before its start
unfoldable pub is_leap : Rules → ℕ → Bool
is_leap r k = ltb (mid r (last_term r k)) (r.start k)

-- months with a mid-term take its number; a month without one takes the number before it
unfoldable pub number_of : Rules → ℕ → ℕ
number_of r k = elim (is_leap r k) [ true ↦ term_number r (last_term r (k - 1)) | false ↦ term_number r (last_term r k) ]

-- where the moons of month k stand: the new moon on its first day or on the eve, the full moon on its 14th to 17th day
pub record MoonDays (r : Rules) (k : ℕ) : Type 0 where
  pub new_from : r.start k ≤ days_at (r.new_moon k) + 1
  pub new_to : days_at (r.new_moon k) ≤ r.start k
  pub full_from : r.start k + 13 ≤ days_at (r.full_moon k)
  pub full_to : days_at (r.full_moon k) ≤ r.start k + 16
