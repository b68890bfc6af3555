-- The months and days of a covered year in round numbers.
use mathlib.Core.Path.{◌≡◌}
use Prim.Native.Nat.{ℕ, ◌+◌, ◌*◌, ◌≤◌}
use native.Mathlib.Omega.{arith}
use Rattle.numbers.proofs.Spans.{Together, together}
use Rattle.months_rules.specs.declared.Calendar.{Calendar}
use Rattle.months_rules.specs.Rules.{Rules, rules_of}
use Rattle.months_rules.specs.FirstMonths.{first_month, first_day_of, next_first_day}
use Rattle.months.specs.Months.{month_count}
use Rattle.months.specs.Year.{TwelveOrThirteen, twelve, thirteen, DemandedYear}
use Rattle.months.proofs.CoveredYears.{covered_year}
use Rattle.calendar_range.specs.Room.{CoveredYear}

pub record YearRoom (r : Rules) (y : ℕ) : Type 0 where
  pub at_least : first_month r y + 12 ≤ first_month r (y + 1)
  pub at_most : first_month r (y + 1) ≤ first_month r y + 13
  pub days_from : first_day_of r y ≤ next_first_day r y
  pub days_to : next_first_day r y ≤ first_day_of r y + 390

pub year_room : (c : Calendar) (y : ℕ) → CoveredYear (rules_of c) y → YearRoom (rules_of c) y
year_room c y covered = by_count year.months
  where
    year : DemandedYear (rules_of c) y
    year = covered_year c y covered.from covered.to

    room : (n : ℕ) → 12 ≤ n → n ≤ 13 → month_count (rules_of c) y ≡ n → YearRoom (rules_of c) y
    room n low high e =
        let next : first_month (rules_of c) y + n ≡ first_month (rules_of c) (y + 1) = omega (arith, low, e) in
        let days : Together (rules_of c).start 29 30 (first_month (rules_of c) y) n = together (rules_of c).start 29 30 (first_month (rules_of c) y) n (λ k from to. year.length k (record { from = from; to = omega (arith, to, next) })) in
        let least : first_day_of (rules_of c) y + 29 * n ≤ next_first_day (rules_of c) y = rw next at days.at_least in
        let most : next_first_day (rules_of c) y ≤ first_day_of (rules_of c) y + 30 * n = rw next at days.at_most in
        record { at_least = omega (arith, next, low); at_most = omega (arith, next, high); days_from = omega (arith, least); days_to = omega (arith, most, high) }

    by_count : TwelveOrThirteen (rules_of c) y → YearRoom (rules_of c) y
    by_count (twelve t) = room 12 (omega arith) (omega arith) t.count
    by_count (thirteen t) = room 13 (omega arith) (omega arith) t.count
