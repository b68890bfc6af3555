-- In a year as the third demand has it, a number and leap or not name exactly one month, and each month is so named.
use mathlib.Core.Path.{◌≡◌, sym, ◌∙◌}
use mathlib.Core.Bool.{Bool, true, false, ◌&&◌, and-eq-true_iff, false≢true}
use Prim.Native.Nat.{ℕ, ◌+◌, ◌-◌, ◌<◌, ◌≤◌}
use native.Mathlib.Omega.{arith, by_contra}
use lib.Dec.{leb}
use borrow.Author.Tests.{le-leb, leb-true}
use Rattle.numbers.proofs.Spans.{span_holds, span_is}
use Rattle.months_rules.specs.Rules.{Rules, mid}
use Rattle.months_rules.specs.FirstMonths.{month_with, first_month}
use Rattle.months_rules.proofs.Steady.{Steady}
use Rattle.months_rules.proofs.FirstMonths.{next_with}
use Rattle.months.specs.Months.{is_leap}
use Rattle.months.specs.Year.{OfYear, Numbered, Twelve, Thirteen, TwelveOrThirteen, twelve, thirteen}
use Rattle.months.proofs.Order.{by_order}
use Rattle.months.proofs.Terms.{month_1_not_leap, has_not_leap, number_before}
use Rattle.calendar_month.specs.Asked.{regular_month, month_named, has_month}
use Rattle.calendar_month.specs.Names.{Named, NamedBack, NextTerm, at_once, after_leap}

module _ (r : Rules) (s : Steady r) (y : ℕ) where
  abbrev first : ℕ
  first = first_month r y

  -- the month that has the year's mid-term i, counted from its Rain Water
  abbrev with : ℕ → ℕ
  with i = month_with r (r.rain_water y + i)

  -- .. is known by having it
  with_term : (i k : ℕ) → Numbered r y i k → with i ≡ k
  with_term i k n = span_is r.start s.months_grow k (mid r (r.rain_water y + i)) n.holds

  by_term : (i k : ℕ) → Numbered r y i k → OfYear r y k → Named r y (i + 1) false (with i)
  by_term i k n h = rw (with_term i k n) (record { of_year = h; number = n.number; is_leap_lem = n.not_leap })

  -- the twelve months that have mid-terms are named by their numbers
  regular_by_term : TwelveOrThirteen r y → (i : ℕ) → i < 12 → Named r y (i + 1) false (with i)
  regular_by_term (twelve t) i h = by_term i (first + i) (t.each i h) (omega (arith, t.count))
  regular_by_term (thirteen t) i h =
      by_order i t.leap_number (λ before. by_term i (first + i) (t.before i before) (omega (arith, t.count)))
      (λ behind. by_term i (first + i + 1) (t.after i behind h) (omega (arith, t.count)))

  module _ (months : TwelveOrThirteen r y) where
    regular : (m : ℕ) → (leb 1 m && leb m 12) ≡ true → Named r y m false (regular_month r y m)
    regular m in_twelve =
        let (low, high) = (and-eq-true_iff (leb 1 m) (leb m 12)).0 in_twelve in
        let from = leb-true 1 m low in
        let to = leb-true m 12 high in
        let e : m - 1 + 1 ≡ m = omega arith in
        rw e at (regular_by_term months (m - 1) (omega arith))

    -- a leap month that follows one of them is of the same year, since no month 1 is leap, and takes its number
    leap_named : (m k : ℕ) → Named r y m false k → is_leap r (k + 1) ≡ true → Named r y m true (k + 1)
    leap_named m k n e =
        let back : k + 1 - 1 ≡ k = omega arith in
        let number = rw back at (number_before r s (k + 1) e) ∙ n.number in
        let inside : k + 2 ≤ first_month r (y + 1) = by_contra (k + 2) (first_month r (y + 1))
        (λ past.
        let here : first_month r (y + 1) ≡ k + 1 = omega (arith, n.of_year.to) in
        false≢true (sym (rw here at (month_1_not_leap r s (y + 1))) ∙ e)) in
        record { of_year = omega (arith, n.of_year.from); number = number; is_leap_lem = e }

    -- the month that is named has that name
    pub named : (m : ℕ) (leap : Bool) → has_month r y m leap ≡ true → Named r y m leap (month_named r y m leap)
    named m true h =
        let (in_twelve, is_leap_lem) = (and-eq-true_iff (leb 1 m && leb m 12) (is_leap r (regular_month r y m + 1))).0 h in
        leap_named m (regular_month r y m) (regular m in_twelve) is_leap_lem
    named m false h = regular m ((and-eq-true_iff (leb 1 m && leb m 12) true).0 h).0

  -- ---- where the months stand that have a year's mid-terms, and the first of the next year's

  twelve_place : (t : Twelve r y) (i : ℕ) → i ≤ 12 → with i ≡ first + i
  twelve_place t i h =
      by_order i 12 (λ inside. with_term i (first + i) (t.each i inside))
      (λ past. let last : i ≡ 12 = omega arith in rw last (omega (arith, next_with r s y, t.count)))

  place_before : (t : Thirteen r y) (i : ℕ) → i < t.leap_number → with i ≡ first + i
  place_before t i h = with_term i (first + i) (t.before i h)

  place_after : (t : Thirteen r y) (i : ℕ) → t.leap_number ≤ i → i ≤ 12 → with i ≡ first + i + 1
  place_after t i low h =
      by_order i 12 (λ inside. with_term i (first + i + 1) (t.after i low inside))
      (λ past. let last : i ≡ 12 = omega arith in rw last (omega (arith, next_with r s y, t.count)))

  -- a month that has a mid-term is not leap
  next_at_once : (m : ℕ) → with m ≡ regular_month r y m + 1 → NextTerm r y m
  next_at_once m e = at_once e (rw e at (has_not_leap r s (with m) (r.rain_water y + m) (span_holds r.start s.months_grow _)))

  pub next_term : TwelveOrThirteen r y → (m : ℕ) → 1 ≤ m → m ≤ 12 → NextTerm r y m
  next_term (twelve t) m low high = next_at_once m (omega (arith, twelve_place t (m - 1) (omega arith), twelve_place t m high))
  next_term (thirteen t) m low high =
      by_order m t.leap_number (λ before. next_at_once m (omega (arith, place_before t (m - 1) (omega arith), place_before t m before)))
      (λ not_before.
      let behind = place_after t m not_before high in
      by_order t.leap_number m (λ later. next_at_once m (omega (arith, place_after t (m - 1) (omega arith) (omega arith))))
      (λ not_later.
      let regular = place_before t (m - 1) (omega arith) in
      let leap : first + t.leap_number ≡ regular_month r y m + 1 = omega arith in
      after_leap (omega arith) (rw leap at t.leap.leap)))

  regular_back : (i k : ℕ) → i < 12 → Numbered r y i k → NamedBack r y k
  regular_back i k h n =
      let e : i + 1 - 1 ≡ i = omega arith in
      record {
        has = rw (n.number, n.not_leap, le-leb 1 (i + 1) (omega arith), le-leb (i + 1) 12 (omega arith));
        back = rw (n.number, n.not_leap, e) (with_term i k n);
      }

  leap_back : (t : Thirteen r y) → NamedBack r y (first + t.leap_number)
  leap_back t =
      let n = t.leap_number in
      let number = t.leap.number in
      let leap = t.leap.leap in
      let e : first + (n - 1) + 1 ≡ first + n = omega (arith, t.from_1) in
      let before : regular_month r y n ≡ first + (n - 1) = place_before t (n - 1) (omega (arith, t.from_1)) in
      record {
        has = rw (number, leap, le-leb 1 n t.from_1, le-leb n 12 t.to_12) (rw (number, before, e) leap);
        back = rw (number, leap, before) e;
      }

  pub named_back : TwelveOrThirteen r y → (k : ℕ) → OfYear r y k → NamedBack r y k
  named_back (twelve t) k h =
      let i = k - first in
      let here : first + i ≡ k = omega (arith, h.from) in
      let inside : i < 12 = omega (arith, h.to, t.count) in
      regular_back i k inside (rw here at (t.each i inside))
  named_back (thirteen t) k h =
      let i = k - first in
      let here : first + i ≡ k = omega (arith, h.from) in
      let inside : i < 13 = omega (arith, h.to, t.count) in
      by_order i t.leap_number (λ before. regular_back i k (omega (arith, t.to_12)) (rw here at (t.before i before)))
      (λ not_before.
      by_order t.leap_number i
      (λ behind.
      let there : first + (i - 1) + 1 ≡ k = omega arith in
      regular_back (i - 1) k (omega arith) (rw there at (t.after (i - 1) (omega arith) (omega arith))))
      (λ not_behind. let there : first + t.leap_number ≡ k = omega arith in rw there at (leap_back t)))
