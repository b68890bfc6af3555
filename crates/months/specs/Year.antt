-- What is demanded of every covered year (docs/PROMISES.md, the third demand).
use Rattle.std.specs.Prelude.{◌≡◌, true, false, ℕ, ◌+◌, ◌<◌, ◌≤◌}
use Rattle.numbers.specs.Spans.{Holds, Takes}
use Rattle.months_rules.specs.Rules.{Rules, term_number}
use Rattle.months_rules.specs.FirstMonths.{Has, HasTerm, first_month, first_day_of}
use Rattle.months.specs.Months.{month_count, number_of, is_leap}

-- a month has 29 or 30 days
abbrev pub MonthDays : Rules → ℕ → Type 0
MonthDays r k = Takes r.start k 29 30

-- month k is one of year y's: from its month 1 to before the next year's
abbrev pub OfYear : Rules → ℕ → ℕ → Type 0
OfYear r y k = Holds (first_month r) y k

-- day d lies in year y: from its first day to the eve of the next year's
abbrev pub WithinYear : Rules → ℕ → ℕ → Type 0
WithinYear r y d = Holds (first_day_of r) y d

-- exactly one month has day d, and it is one of year y's
pub record OneMonth (r : Rules) (y d : ℕ) : Type 0 where
  pub month : ℕ
  pub of_year : OfYear r y month
  pub has : Has r month d
  pub no_other : (k : ℕ) → Has r k d → k ≡ month

-- month k takes number i + 1 in year y: it holds the mid-term of that number and no other
pub record Numbered (r : Rules) (y i k : ℕ) : Type 0 where
  pub number : number_of r k ≡ i + 1
  pub not_leap : is_leap r k ≡ false
  pub holds : HasTerm r k (r.rain_water y + i)
  pub term_number_lem : term_number r (r.rain_water y + i) ≡ i + 1
  pub no_other : (j : ℕ) → HasTerm r k j → j ≡ r.rain_water y + i

-- month k is leap, after number n: it holds no mid-term
pub record LeapAfter (r : Rules) (n k : ℕ) : Type 0 where
  pub number : number_of r k ≡ n
  pub leap : is_leap r k ≡ true
  pub holds_none : (j : ℕ) → HasTerm r k j → ⊥

-- twelve: each has the mid-term of its number
pub record Twelve (r : Rules) (y : ℕ) : Type 0 where
  pub count : month_count r y ≡ 12
  pub each : (i : ℕ) → i < 12 → Numbered r y i (first_month r y + i)

-- thirteen: one of them is leap, and each other, before it and after it, has the mid-term of its number
pub record Thirteen (r : Rules) (y : ℕ) : Type 0 where
  pub count : month_count r y ≡ 13
  pub leap_number : ℕ
  pub from_1 : 1 ≤ leap_number
  pub to_12 : leap_number ≤ 12
  pub leap : LeapAfter r leap_number (first_month r y + leap_number)
  pub before : (i : ℕ) → i < leap_number → Numbered r y i (first_month r y + i)
  pub after : (i : ℕ) → leap_number ≤ i → i < 12 → Numbered r y i (first_month r y + i + 1)

pub data TwelveOrThirteen (r : Rules) (y : ℕ) : Type 0 where
  twelve : Twelve r y → TwelveOrThirteen r y
  thirteen : Thirteen r y → TwelveOrThirteen r y

-- the months follow each other without gap or overlap, from the year's first day to the eve of the next year's, each of 29 or 30 days, and there are 12 or 13
pub record DemandedYear (r : Rules) (y : ℕ) : Type 0 where
  pub length : (k : ℕ) → OfYear r y k → MonthDays r k
  pub one_month : (d : ℕ) → WithinYear r y d → OneMonth r y d
  pub within_year : (k d : ℕ) → OfYear r y k → Has r k d → WithinYear r y d
  pub months : TwelveOrThirteen r y
