-- The days of a covered month, which fit their words.
use mathlib.Core.Path.{◌≡◌, ap}
use Prim.Native.Nat.{◌+◌, ◌≤◌, ◌^◌}
use native.Mathlib.Omega.{arith}
use Rattle.months_rules.specs.declared.Calendar.{Calendar}
use Rattle.months_rules.specs.declared.Begun.{Begun}
use Rattle.months_rules.specs.Rules.{Rules, rules_of}
use Rattle.months.specs.Year.{MonthDays}
use Rattle.months.specs.Room.{Starting, CoveredMonth}
use Rattle.months.proofs.CoveredYears.{edges, its_days, starts_covered, ends_covered}

pub record MonthRoom (r : Rules) (b : Begun) : Type 0 where
  pub at_least : b.start + 29 ≤ r.start (b.month + 1)
  pub at_most : r.start (b.month + 1) ≤ b.start + 30
  pub days : MonthDays r b.month
  pub from : r.day_zero ≤ b.start
  pub to : r.start (b.month + 1) ≤ r.day_zero + 2 ^ 22
  pub fits : Starting r b

pub month_room : (c : Calendar) (b : Begun) → CoveredMonth (rules_of c) b → MonthRoom (rules_of c) b
month_room c b h =
    let r = rules_of c in
    let k = b.month in
    let covers = h.covering in
    let start : b.start ≡ r.start k = ap (λ b. b.start) h.own in
    let days = its_days c k covers in
    record {
      at_least = omega (arith, start, days.at_least);
      at_most = omega (arith, start, days.at_most);
      days = days;
      from = omega (arith, start, starts_covered c k covers, (edges c).first_day);
      to = omega (arith, ends_covered c k covers, (edges c).last_day);
      fits = record { own = h.own; small = omega (arith, covers.to, (edges c).last_month) };
    }
