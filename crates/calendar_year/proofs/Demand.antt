-- The third demand of what `year_of` answers, for every covered year of both calendars.
use mathlib.Core.Path.{◌≡◌, refl, subst, ◌∙◌}
use Prim.Native.Nat.{ℕ, ◌+◌, ◌<◌}
use native.Mathlib.Omega.{arith}
use Rattle.answers.specs.Answer.{given}
use Rattle.months_rules.specs.declared.Calendar.{Calendar}
use Rattle.months_rules.specs.Rules.{Rules, rules_of, day_number}
use Rattle.months_rules.specs.FirstMonths.{first_month}
use Rattle.months.specs.Months.{month_count}
use Rattle.months.specs.Year.{OfYear, Numbered, TwelveOrThirteen, twelve, thirteen, DemandedYear}
use Rattle.months.proofs.CoveredYears.{covered_year, covering, edges, starts_covered}
use Rattle.calendar_range.specs.Range.{numbered, rules_for}
use Rattle.calendar_range.specs.Room.{CoveredYear}
use Rattle.calendar_range.proofs.Covered.{covered_year_told}
use Rattle.calendar_year.specs.declared.Year.{Year}
use Rattle.calendar_year.specs.Years.{listed, no_month, year_in, year_of}
use Rattle.calendar_year.specs.Demand.{month_at, day_after, Ordinary, NumbersInOrder, without_leap, with_leap, MonthsListed}
use Rattle.calendar_year.proofs.Refusals.{year_given}
use Rattle.calendar_year.proofs.Covered.{year_room}
use Rattle.calendar_year.proofs.YearLaws.{days_are_lengths, count_is_used, listed_at, leap_0, leap_is}

module _ (c : Calendar) (y : ℕ) (covered : CoveredYear (rules_of c) y) where
  abbrev r : Rules
  r = rules_of c

  abbrev first : ℕ
  first = first_month r y

  abbrev x : Year
  x = year_in r y

  year : DemandedYear r y
  year = covered_year c y covered.from covered.to

  its_count : x.count ≡ month_count r y
  unfolding year_in
  its_count = refl

  -- month i of the year, as it is listed, is one of its months
  of_year : (i : ℕ) → i < x.count → OfYear r y (first + i)
  of_year i h = omega (arith, its_count)

  at : (i : ℕ) → i < x.count → month_at x i ≡ listed r (first + i)
  at i h = listed_at c y covered i no_month (omega (arith, its_count))

  -- the day after it is the first day of the next month
  after : (i : ℕ) → i < x.count → day_after (month_at x i) ≡ day_number r (r.start (first + i + 1))
  after i h =
      let days = year.length (first + i) (of_year i h) in
      let covers = covering c y (first + i) covered.from covered.to (of_year i h) in
      rw (at i h) (omega (arith, starts_covered c (first + i) covers, (edges c).first_day))

  regular : (i n : ℕ) → i < x.count → Numbered r y n (first + i) → Ordinary (n + 1) (month_at x i)
  regular i n h m = rw (at i h) (record { number = m.number; not_leap = m.not_leap })

  numbers : TwelveOrThirteen r y → NumbersInOrder x
  numbers (twelve t) =
      let many : x.count ≡ 12 = its_count ∙ t.count in
      without_leap (record { count = many; leap_0 = leap_0 r y t; each = λ i h. regular i i (omega arith) (t.each i h) })
  numbers (thirteen t) =
      let n = t.leap_number in
      let l : x.leap ≡ n = leap_is r y t in
      let many : x.count ≡ 13 = its_count ∙ t.count in
      let few = t.to_12 in
      with_leap
      (record {
        count = many;
        from_1 = omega (arith, t.from_1);
        to_12 = omega arith;
        leap = rw (l, at n (omega arith)) (record { number = t.leap.number; leap = t.leap.leap });
        before = λ i h. regular i i (omega arith) (t.before i (omega arith));
        behind = λ i h g.
            let e : first + i + 1 ≡ first + (i + 1) = omega arith in
            regular (i + 1) i (omega arith) (rw e at (t.after i (omega arith) g));
      })

  all_listed : MonthsListed r y x
  all_listed =
      let room = year_room c y covered in
      record {
        begins = let e : first + 0 ≡ first = omega arith in rw (at 0 (omega (arith, its_count)), e);
        follows = λ i h. let e : first + i + 1 ≡ first + (i + 1) = omega arith in after i (omega arith) ∙ rw (at (i + 1) h, e);
        ends = λ i h. let e : first + i + 1 ≡ first_month r (y + 1) = omega (arith, its_count) in after i (omega arith) ∙ rw e;
        lengths = λ i h. rw (at i h) (omega (arith, year.length (first + i) (of_year i h)));
        numbers = numbers year.months;
        days = days_are_lengths c y covered;
        total = count_is_used c y covered;
      }

-- every year that is given lists its months as demanded
pub year_listed : (c y : ℕ) (x : Year) → year_of c y ≡ given x → MonthsListed (rules_for c) y x
year_listed c y x e =
    let g = (year_given c y x).only_if e in
    subst (λ (x : Year). MonthsListed (rules_for c) y x) g.1 (all_listed (numbered c) y (covered_year_told (rules_for c) y g.0.1.0))
