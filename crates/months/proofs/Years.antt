-- The third demand for any calendar: if the months from month 1 of a year to that of the next have 29 or 30 days each, and mid-terms lie 30 or 31
-- days apart, then the year has 12 or 13 months, and they stand to its mid-terms as the demand says.
use mathlib.Core.Path.{◌≡◌, ap, ◌∙◌}
use Prim.Native.Nat.{ℕ, zero, suc, ◌+◌, ◌-◌, ◌<◌, ◌≤◌}
use native.Mathlib.Numerals.{add-one}
use native.Mathlib.Omega.{arith, by_contra}
use Rattle.numbers.proofs.Spans.{later, one_span, span_holds, span_is, span_from, span_before, together}
use Rattle.months_rules.specs.Rules.{Rules, mid, term_number}
use Rattle.months_rules.specs.FirstMonths.{Has, HasTerm, month_of, month_with, first_month}
use Rattle.months_rules.proofs.Steady.{Steady, terms_apart}
use Rattle.months_rules.proofs.FirstMonths.{terms_in_order, opens, first_with, next_with}
use Rattle.months.specs.Months.{last_term}
use Rattle.months.specs.Year.{MonthDays, OfYear, WithinYear, OneMonth, Numbered, LeapAfter, Twelve, Thirteen, TwelveOrThirteen, twelve, thirteen, DemandedYear}
use Rattle.months.proofs.Order.{by_order}
use Rattle.months.proofs.Terms.{has_not_leap, has_none_leap, one_term, last_term_is, number_of_last, number_of_leap}

module _ (r : Rules) (s : Steady r) (y : ℕ) (length : (k : ℕ) → first_month r y ≤ k → k ≤ first_month r (y + 1) → MonthDays r k) where
  abbrev first : ℕ
  first = first_month r y

  abbrev next : ℕ
  next = first_month r (y + 1)

  -- the year's mid-term i, counted from its Rain Water, and the month that has it
  abbrev term : ℕ → ℕ
  term i = r.rain_water y + i

  abbrev with : ℕ → ℕ
  with i = month_with r (term i)

  has : (i : ℕ) → HasTerm r (with i) (term i)
  has i = span_holds r.start s.months_grow _

  takes : (i : ℕ) → i ≤ 12 → MonthDays r (with i)
  takes i h =
      let from = terms_in_order r s (term 0) (term i) (omega arith) in
      let to = terms_in_order r s (term i) (term 12) (omega arith) in
      length (with i) (omega (arith, first_with r s y)) (omega (arith, next_with r s y))

  short : (i : ℕ) → i < 12 → r.start (with i + 1) ≤ r.start (with i) + 30
  short i h = omega (arith, takes i (omega arith))

  -- the next mid-term falls in a later month
  rises : (i : ℕ) → i < 12 → with i < with (i + 1)
  rises i h =
      let one_on : term (i + 1) ≡ term i + 1 = omega arith in
      let apart = terms_apart r s (term i) in
      let late = span_from r.start s.months_grow (with i + 1) (mid r (term i + 1)) (omega (arith, has i, takes i (omega arith))) in
      rw one_on (omega arith)

  climbs : (i n : ℕ) → i + n ≤ 12 → with i + n ≤ with (i + n)
  climbs i zero h = let e : i + 0 ≡ i = omega arith in rw e (omega arith)
  climbs i (suc n) h =
      let e : i + suc n ≡ (i + n) + 1 = omega arith in
      rw e (omega (arith, climbs i n (omega arith), rises (i + n) (omega arith)))

  -- .. so that the months stand at least as far apart as the mid-terms that they have
  apart : (i j : ℕ) → i ≤ j → j ≤ 12 → with i + (j - i) ≤ with j
  apart i j h to = let e : i + (j - i) ≡ j = omega arith in rw e at (climbs i (j - i) (omega arith))

  at_or_after : (i : ℕ) → i ≤ 12 → first + i ≤ with i
  at_or_after i h = omega (arith, apart 0 i (omega arith) h, first_with r s y)

  at_or_before : (i : ℕ) → i ≤ 12 → with i + (12 - i) ≤ next
  at_or_before i h = omega (arith, apart i 12 h (omega arith), next_with r s y)

  -- fourteen months would take longer than twelve mid-terms and a month
  at_most_13 : next ≤ first + 13
  at_most_13 =
      by_contra next (first + 13)
      (λ many.
      let months = together r.start 29 30 first 14 (λ k low high. omega (arith, length k low (omega arith))) in
      let terms = together (mid r) 30 31 (r.rain_water y) 12 (λ j low high. terms_apart r s j) in
      let rest = later r.start s.months_grow (first + 14) next (omega arith) in
      let ends : r.start next ≤ mid r (term 12) = rw (next_with r s y) at (has 12).from in
      omega (arith, (opens r s y).to, length first (omega arith) (omega arith)))

  last : (i : ℕ) → i < 12 → last_term r (with i) ≡ term i
  last i h = last_term_is r s (with i) (term i) (short i h) (has i)

  numbered : (i : ℕ) → i < 12 → Numbered r y i (with i)
  numbered i h =
      record {
        number = number_of_last r s (with i) ∙ ap (term_number r) (last i h) ∙ s.numbers y i h;
        not_leap = has_not_leap r s (with i) (term i) (has i);
        holds = has i;
        term_number_lem = s.numbers y i h;
        no_other = λ j g. one_term r s (with i) j (term i) (short i h) g (has i);
      }

  with_twelve : next ≡ first + 12 → Twelve r y
  with_twelve e =
      record {
        count = omega arith;
        each = λ i h.
            let here : with i ≡ first + i = omega (arith, at_or_after i (omega arith), at_or_before i (omega arith)) in
            rw here at (numbered i h);
      }

  -- where thirteen months have only twelve mid-terms: after the month of mid-term t, one is passed over
  record Gap : Type 0 where
    t : ℕ
    t_to : t < 12
    before : with t ≡ first + t
    behind : with (t + 1) ≡ first + t + 2

  gap : (n : ℕ) → n ≤ 12 → with n ≡ first + n + 1 → Gap
  gap zero h e = absurd (omega (arith, first_with r s y))
  gap (suc n) h e =
      let up : with n < with (suc n) = rw add-one at (rises n (omega arith)) in
      by_order (first + n) (with n) (λ later. gap n (omega arith) (omega arith))
      (λ not_later.
      let low = at_or_after n (omega arith) in
      record { t = n; t_to = omega arith; before = omega arith; behind = rw add-one (omega arith) })

  module _ (g : Gap) where
    abbrev leap : ℕ
    leap = first + (g.t + 1)

    -- the month that is passed over holds none
    passed_over : (j : ℕ) → HasTerm r leap j → ⊥
    passed_over j h =
        let here : month_with r j ≡ leap = span_is r.start s.months_grow leap (mid r j) h in
        by_order (term g.t) j (λ late. omega (arith, terms_in_order r s (term (g.t + 1)) j (omega arith), g.behind))
        (λ early. omega (arith, terms_in_order r s j (term g.t) early, g.before))

    leap_after : LeapAfter r (g.t + 1) leap
    leap_after =
        let is_leap_lem = has_none_leap r s leap passed_over in
        let t = g.t in
        let eve : leap - 1 ≡ with t = omega (arith, g.before) in
        let last_on_eve : last_term r (leap - 1) ≡ term t = rw eve (last t g.t_to) in
        record {
          number = number_of_leap r leap is_leap_lem ∙ ap (term_number r) last_on_eve ∙ s.numbers y t g.t_to;
          leap = is_leap_lem;
          holds_none = passed_over;
        }

    with_thirteen : next ≡ first + 13 → Thirteen r y
    with_thirteen e =
        record {
          count = omega arith;
          leap_number = g.t + 1;
          from_1 = omega arith;
          to_12 = omega (arith, g.t_to);
          leap = leap_after;
          before = λ i h.
              let below = apart i g.t (omega arith) (omega (arith, g.t_to)) in
              let here : with i ≡ first + i = omega (arith, g.before, at_or_after i (omega (arith, g.t_to))) in
              rw here at (numbered i (omega (arith, g.t_to)));
          after = λ i h l.
              let above = apart (g.t + 1) i h (omega arith) in
              let here : with i ≡ first + i + 1 = omega (arith, g.behind, at_or_before i (omega arith)) in
              rw here at (numbered i l);
        }

  pub twelve_or_thirteen : TwelveOrThirteen r y
  twelve_or_thirteen =
      let low : first + 12 ≤ next = omega (arith, at_or_after 12 (omega arith), next_with r s y) in
      by_order (first + 12) next
      (λ more.
      let e : next ≡ first + 13 = omega (arith, at_most_13) in
      thirteen (with_thirteen (gap 12 (omega arith) (omega (arith, next_with r s y))) e))
      (λ no_more. twelve (with_twelve (omega arith)))

-- exactly one month has a day of the year ..
pub one_month : (r : Rules) → Steady r → (y d : ℕ) → WithinYear r y d → OneMonth r y d
one_month r s y d h =
    let grow = s.months_grow in
    let has = span_holds r.start grow d in
    let from = span_from r.start grow (first_month r y) d h.from in
    let to = span_before r.start grow (first_month r (y + 1)) d h.to in
    record {
      month = month_of r d;
      of_year = record { from = from; to = to };
      has = has;
      no_other = λ k g. one_span r.start grow k (month_of r d) d g has;
    }

-- .. and each day of a month of the year lies in the year
pub within_year : (r : Rules) → Steady r → (y k d : ℕ) → OfYear r y k → Has r k d → WithinYear r y d
within_year r s y k d of_year has =
    let begun = later r.start s.months_grow (first_month r y) k of_year.from in
    let ended = later r.start s.months_grow (k + 1) (first_month r (y + 1)) (omega arith) in
    omega arith

pub year_of_lem : (r : Rules) → Steady r → (y : ℕ) → ((k : ℕ) → first_month r y ≤ k → k ≤ first_month r (y + 1) → MonthDays r k) → DemandedYear r y
year_of_lem r s y length =
    record {
      length = λ k h. length k h.from (omega arith);
      one_month = one_month r s y;
      within_year = within_year r s y;
      months = twelve_or_thirteen r s y length;
    }
