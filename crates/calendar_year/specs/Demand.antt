-- The third demand of what `year_of` answers: the months of a covered year as they are listed (docs/PROMISES.md).
use Rattle.std.specs.Prelude.{◌≡◌, true, false, List, [], ◌∷◌, ℕ, ◌+◌, ◌<◌, ◌≤◌, ltb, get_or}
use Rattle.months_rules.specs.Rules.{Rules, day_number}
use Rattle.months_rules.specs.FirstMonths.{first_day_of, next_first_day}
use Rattle.calendar_year.specs.declared.Month.{Month}
use Rattle.calendar_year.specs.declared.Year.{Year}
use Rattle.calendar_year.specs.Years.{no_month}

-- the month at place i, from 0 on
abbrev pub month_at : Year → ℕ → Month
month_at x i = get_or x.months i no_month

-- the day after a month's last, by day number
abbrev pub day_after : Month → ℕ
day_after m = m.first_day + m.length

-- the days of all places together
unfoldable pub days_of : List Month → ℕ
days_of [] = 0
days_of (m ∷ ms) = m.length + days_of ms

-- how many places are used: no month has number 0
unfoldable pub used_of : List Month → ℕ
used_of [] = 0
used_of (m ∷ ms) = elim (ltb 0 m.number) [ true ↦ 1 + used_of ms | false ↦ used_of ms ]

-- a month of number n that is not leap, and the leap month behind it
pub record Ordinary (n : ℕ) (m : Month) : Type 0 where
  pub number : m.number ≡ n
  pub not_leap : m.leap ≡ false

pub record LeapBehind (n : ℕ) (m : Month) : Type 0 where
  pub number : m.number ≡ n
  pub leap : m.leap ≡ true

-- twelve months, numbered 1 to 12 in order, and none is leap
pub record NoneLeap (x : Year) : Type 0 where
  pub count : x.count ≡ 12
  pub leap_0 : x.leap ≡ 0
  pub each : (i : ℕ) → i < 12 → Ordinary (i + 1) (month_at x i)

-- thirteen: one is leap, directly behind the month of its number, which is the year's leap number; the others are numbered 1 to 12 in order
pub record OneLeap (x : Year) : Type 0 where
  pub count : x.count ≡ 13
  pub from_1 : 1 ≤ x.leap
  pub to_12 : x.leap ≤ 12
  pub leap : LeapBehind x.leap (month_at x x.leap)
  pub before : (i : ℕ) → i < x.leap → Ordinary (i + 1) (month_at x i)
  pub behind : (i : ℕ) → x.leap ≤ i → i < 12 → Ordinary (i + 1) (month_at x (i + 1))

pub data NumbersInOrder (x : Year) : Type 0 where
  without_leap : NoneLeap x → NumbersInOrder x
  with_leap : OneLeap x → NumbersInOrder x

-- the months of year y are listed in x as demanded
pub record MonthsListed (r : Rules) (y : ℕ) (x : Year) : Type 0 where
  -- they follow each other without gap or overlap, from its first day to the eve of the next year's
  pub begins : (month_at x 0).first_day ≡ day_number r (first_day_of r y)
  pub follows : (i : ℕ) → i + 1 < x.count → day_after (month_at x i) ≡ (month_at x (i + 1)).first_day
  pub ends : (i : ℕ) → i + 1 ≡ x.count → day_after (month_at x i) ≡ day_number r (next_first_day r y)
  -- each has 29 or 30 days
  pub lengths : (i : ℕ) → i < x.count → (29 ≤ (month_at x i).length) × ((month_at x i).length ≤ 30)
  -- there are 12 or 13, with their numbers
  pub numbers : NumbersInOrder x
  -- days and months together are those of the months listed
  pub days : x.days ≡ days_of x.months
  pub total : x.count ≡ used_of x.months
