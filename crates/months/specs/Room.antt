-- What inner functions find, and what is asked of their callers, which have made sure of it. No rule of the calendar.
use Rattle.std.specs.Prelude.{◌≡◌, ℕ, ◌+◌, ◌-◌, ◌<◌, ◌≤◌, ◌^◌}
use Rattle.numbers.specs.Spans.{Holds}
use Rattle.months_rules.specs.declared.Begun.{Begun}
use Rattle.months_rules.specs.Rules.{Rules, mid}
use Rattle.months_rules.specs.FirstMonths.{begun, first_month}
use Rattle.months.specs.declared.LastTerm.{LastTerm}
use Rattle.months.specs.Months.{last_term, is_leap}

-- ---- what is found

-- mid-term j is the last by the end of month k: it has fallen by then, and the next has not
abbrev pub IsLast : Rules → ℕ → ℕ → Type 0
IsLast r k j = Holds (mid r) j (r.start (k + 1) - 1)

-- the last mid-term by the end of month k, and whether that month is leap
abbrev pub last_term_of : Rules → ℕ → LastTerm
last_term_of r k = record { term = last_term r k; leap = is_leap r k }

-- ---- what is asked

-- the day is the month's own, and fits its word
pub record Starting (r : Rules) (b : Begun) : Type 0 where
  pub own : b ≡ begun r b.month
  pub small : b.month < 2 ^ 27

-- .. and the other is the first day of the next month
pub record Ending (r : Rules) (b : Begun) (next : ℕ) : Type 0 where
  pub starting : Starting r b
  pub next_own : next ≡ r.start (b.month + 1)

-- month k is one of a covered year
pub record Covering (r : Rules) (k : ℕ) : Type 0 where
  pub from : first_month r r.first_year ≤ k
  pub to : k < first_month r (r.last_year + 1)

-- the day is the month's own, and it is covered
pub record CoveredMonth (r : Rules) (b : Begun) : Type 0 where
  pub own : b ≡ begun r b.month
  pub covering : Covering r b.month
