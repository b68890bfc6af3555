-- The leap month of a number comes before the month that has the next mid-term: it starts after the mid-term of that number.
use mathlib.Core.Path.{◌≡◌}
use mathlib.Core.Bool.{true, false}
use Prim.Native.Nat.{ℕ, ◌+◌, ◌-◌, ◌<◌, ◌≤◌, ◌^◌}
use native.Mathlib.Omega.{arith}
use borrow.Author.Tests.{le-leb}
use Rattle.answers.specs.Answer.{given, refused}
use Rattle.numbers.specs.Spans.{Holds}
use Rattle.numbers.proofs.Spans.{span_holds}
use Rattle.months_rules.specs.declared.Calendar.{Calendar}
use Rattle.months_rules.specs.Rules.{Rules, mid, rules_of}
use Rattle.months_rules.specs.FirstMonths.{month_with, begun}
use Rattle.months_rules.proofs.Calendars.{steady}
use Rattle.months.specs.Months.{is_leap}
use Rattle.months.proofs.CoveredYears.{edges}
use Rattle.calendar_range.specs.Room.{CoveredYear}
use Rattle.calendar_month.specs.Asked.{regular_month, has_month}
use Rattle.calendar_month.specs.Room.{moon_number, in_year}
use Rattle.calendar_month.specs.Names.{NextTerm, at_once, after_leap}
use Rattle.calendar_month.proofs.Steps.{leap_found, leap_lacking}
use Rattle.calendar_month.proofs.Covered.{name_found, month_covering, next_found}

module _ (c : Calendar) (y : ℕ) (covered : CoveredYear (rules_of c) y) (m : ℕ) (low : 1 ≤ m) (high : m ≤ 12) where
  abbrev rules : Rules
  rules = rules_of c

  abbrev regular : ℕ
  regular = regular_month rules y m

  -- the month that has the next mid-term, and the day of the one before
  abbrev next : ℕ
  next = month_with rules (rules.rain_water y + m)

  abbrev term : ℕ
  term = mid rules (rules.rain_water y + (m - 1))

  has_term : Holds rules.start regular term
  has_term = span_holds rules.start (steady c).months_grow term

  -- that month follows at once, or the leap month does
  by_next : {A : Type 0} → (next ≡ regular + 1 → is_leap rules (regular + 1) ≡ false → A) → (next ≡ regular + 2 → is_leap rules (regular + 1) ≡ true → A) → A
  by_next {A} here behind = by_term (next_found c y covered m low high)
    where
      by_term : NextTerm rules y m → A
      by_term (at_once e is) = here e is
      by_term (after_leap e is) = behind e is

  pub next_from_1 : 1 ≤ next
  next_from_1 = by_next (λ e is. omega arith) (λ e is. omega arith)

  pub leap_before : term < rules.start (next - 1) → given (c, begun rules (next - 1)) ≡ in_year begun c y m true
  leap_before h =
      by_next (λ e is. let before : next - 1 ≡ regular = omega arith in absurd (omega (arith, rw before at h, has_term.from)))
      (λ e is. let before : next - 1 ≡ regular + 1 = omega arith in rw before (leap_found begun c y m low high is))

  pub none_before : rules.start (next - 1) ≤ term → refused 3 ≡ in_year begun c y m true
  none_before h =
      by_next (λ e is. leap_lacking begun c y m low high is)
      (λ e is. let before : next - 1 ≡ regular + 1 = omega arith in absurd (omega (arith, rw before at h, has_term.to)))

  -- ---- the same by the numbers of the months

  pub regular_small : regular + 1 < 2 ^ 27
  regular_small =
      let there : has_month rules y m false ≡ true = rw (le-leb 1 m low, le-leb m 12 high) in
      let covers = month_covering c y covered regular (name_found c y covered m false there).of_year in
      omega (arith, covers.to, (edges c).last_month)

  pub leap_behind : (next ≡ regular + 1 → ⊥) → given (c, regular + 1) ≡ in_year moon_number c y m true
  leap_behind apart = by_next (λ e is. absurd (apart e)) (λ e is. leap_found moon_number c y m low high is)

  pub none_behind : next ≡ regular + 1 → refused 3 ≡ in_year moon_number c y m true
  none_behind h = by_next (λ e is. leap_lacking moon_number c y m low high is) (λ e is. absurd (omega arith))
