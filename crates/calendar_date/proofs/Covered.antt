-- Covered days as tests tell them, and that their months are covered.
use mathlib.Core.Path.{◌≡◌, refl}
use mathlib.Core.Bool.{true, and-eq-true_iff}
use Prim.Native.Nat.{ℕ, ◌+◌}
use native.Mathlib.Omega.{arith}
use lib.Dec.{leb, ltb}
use borrow.Author.Tests.{le-leb, lt-ltb, leb-true, ltb-true}
use Rattle.months_rules.specs.declared.Calendar.{Calendar}
use Rattle.months_rules.specs.Rules.{day_number, rules_of}
use Rattle.months_rules.specs.FirstMonths.{month_of, begun, first_day_of, next_first_day}
use Rattle.months.specs.Room.{CoveredMonth}
use Rattle.months.proofs.CoveredYears.{edges, covering_day}
use Rattle.calendar_date.specs.Dates.{is_covered_day}
use Rattle.calendar_date.specs.Room.{CoveredDay}

pub covered_day_told : (c : Calendar) (n : ℕ) → is_covered_day (rules_of c) n ≡ true → CoveredDay (rules_of c) (n + (rules_of c).day_zero)
covered_day_told c n h =
    let r = rules_of c in
    let first = day_number r (first_day_of r r.first_year) in
    let after = day_number r (next_first_day r r.last_year) in
    let (low, high) = (and-eq-true_iff (leb first n) (ltb n after)).0 h in
    record { from = omega (arith, leb-true first n low); to = omega (arith, ltb-true n after high) }

pub covered_day_tested : (c : Calendar) (n : ℕ) → CoveredDay (rules_of c) (n + (rules_of c).day_zero) → is_covered_day (rules_of c) n ≡ true
covered_day_tested c n h =
    let r = rules_of c in
    let first = day_number r (first_day_of r r.first_year) in
    let after = day_number r (next_first_day r r.last_year) in
    rw (le-leb first n (omega (arith, h.from)), lt-ltb n after (omega (arith, h.to, (edges c).first_day)))

-- the month that has a covered day is covered
pub day_month : (c : Calendar) (d : ℕ) → CoveredDay (rules_of c) d → CoveredMonth (rules_of c) (begun (rules_of c) (month_of (rules_of c) d))
day_month c d h = record { own = refl; covering = covering_day c d h.from h.to }
