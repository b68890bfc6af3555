-- The date of a day in an examined run: the days that it holds are those of its months, and a day's date is told by its month's place.
use mathlib.Core.Path.{◌≡◌, refl, sym, ◌∙◌}
use mathlib.Core.Bool.{Bool, true, false, false≢true, ◌&&◌, and-eq-true_iff}
use Prim.Native.Nat.{ℕ, ◌+◌, ◌-◌, ◌%◌, ◌<◌, ◌≤◌, ◌^◌}
use native.Mathlib.Omega.{arith}
use lib.ListN.{length, get_or, take}
use mathlib.Core.List.{List}
use lib.Dec.{leb, ltb}
use borrow.Author.Tests.{le-leb, lt-ltb, leb-true, leb-false, ltb-true, ltb-false}
use Rattle.std.proofs.Common.{nat_cmp, is_le, is_lt}
use Rattle.std.proofs.lemmas.Bool.Decides.{nat_tests}
use Rattle.std.specs.List.Sorted.{IsPartitionedBy, IsPartitionPoint}
use Rattle.std.proofs.lemmas.List.{get_or-take, get_or_default}
use Rattle.numbers.specs.Spans.{Holds}
use Rattle.numbers.proofs.Spans.{Growing, later, span_holds, span_is, span_from, span_before}
use Rattle.months_rules.specs.Rules.{day_number}
use Rattle.months_rules.specs.FirstMonths.{first_month, first_day_of, month_of}
use Rattle.months_rules.proofs.Calendars.{steady}
use Rattle.months_rules.proofs.FirstMonths.{years_in_order}
use Rattle.months.specs.Months.{year_with}
use Rattle.months.specs.Room.{Covering}
use Rattle.months.proofs.YearOfMonth.{year_holds}
use Rattle.months.proofs.CoveredYears.{starts_covered, ends_covered, covering_day}
use Rattle.calendar_date.specs.Dates.{is_covered_day, date_in}
use Rattle.calendar_date.proofs.Covered.{covered_day_told, covered_day_tested}
use Rattle.run_content.specs.declared.Run.{Run}
use Rattle.run_content.specs.Room.{Kept}
use Rattle.run_content.proofs.Content.{its_calendar, its_rules, its_first, own_count, own_rows, own_covering}
use Rattle.run_content.proofs.LastDates.{told}
use Rattle.run_lookup.specs.Held.{holds_day, holds_year, PlaceHas, OnePlace}
use Rattle.run_lookup.specs.Room.{LastBegun, day_after, date_in_month}
use Rattle.run_lookup.proofs.Places.{held_year_told, some_month, used_length, starts, ends, ends_small}

-- a day from its origin on, as a calendar counts
abbrev whole : Run → ℕ → ℕ
whole run n = n + (its_rules run).day_zero

-- the run was examined, and holds the day
pub record HeldDay (run : Run) (n : ℕ) : Type 0 where
  pub kept : Kept run
  pub from : get_or run.first_days 0 0 ≤ n
  pub to : n < day_after run

-- ---- which days are held

-- as a range tests it
in_range : (a b n : ℕ) → (is_le (nat_cmp a n) && is_lt (nat_cmp n b)) ≡ (leb a n && ltb n b)
in_range a b n = grind (arith, nat_tests)

module _ {run : Run} (kept : Kept run) where
  months_grow : Growing (its_rules run).start
  months_grow = (steady (its_calendar run)).months_grow

  -- the first day, and the day after the last
  begins : day_number (its_rules run) (first_day_of (its_rules run) run.first_year) ≡ get_or run.first_days 0 0
  begins =
      let here : its_first run + 0 ≡ its_first run = omega arith in
      omega (arith, rw here at (starts kept 0 (some_month kept)))

  stops : day_after run + (its_rules run).day_zero ≡ first_day_of (its_rules run) (run.first_year + run.years)
  stops =
      let on : its_first run + (run.count - 1) + 1 ≡ first_month (its_rules run) (run.first_year + run.years) = omega (arith, some_month kept, own_count kept.own) in
      rw on at (ends kept (run.count - 1) (omega (arith, some_month kept)))

  -- as the two tests tell it
  module _ (n : ℕ) where
    tested : holds_day run n ≡ (leb (get_or run.first_days 0 0) n && ltb n (day_after run))
    tested =
        let stop : day_number (its_rules run) (first_day_of (its_rules run) (run.first_year + run.years)) ≡ day_after run = omega (arith, stops) in
        rw (begins, stop)

    pub day_tested : {after : ℕ} {held : Bool} → after ≡ day_after run → held ≡ (is_le (nat_cmp (get_or run.first_days 0 0) n) && is_lt (nat_cmp n after)) → held ≡ holds_day run n
    day_tested end held = held ∙ rw (end, tested) (in_range (get_or run.first_days 0 0) (day_after run) n)

    pub held_day_told : holds_day run n ≡ true → HeldDay run n
    held_day_told holds =
        let (low, high) = (and-eq-true_iff (leb (get_or run.first_days 0 0) n) (ltb n (day_after run))).0 (sym tested ∙ holds) in
        record { kept = kept; from = leb-true _ _ low; to = ltb-true _ _ high }

pub day_held : {run : Run} {n : ℕ} → HeldDay run n → holds_day run n ≡ true
day_held {run} {n} day = tested day.kept n ∙ rw (le-leb _ _ day.from, lt-ltb _ _ day.to)

-- .. and as the months' spans do
module _ {run : Run} (kept : Kept run) (n : ℕ) where
  abbrev its_month : ℕ
  its_month = month_of (its_rules run) (whole run n)

  span_held : its_first run ≤ its_month → its_month < its_first run + run.count → holds_day run n ≡ true
  span_held low high =
      let has = span_holds _ (months_grow kept) (whole run n) in
      let first = later _ (months_grow kept) (its_first run) its_month low in
      let last = later _ (months_grow kept) (its_month + 1) (its_first run + run.count) (omega (arith, high)) in
      day_held (record { kept = kept; from = omega (arith, begins kept, first, has.from); to = omega (arith, rw (own_count kept.own) at last, has.to, stops kept) })

  -- a day whose place or whose date's year is the run's is held
  place_month : (i : ℕ) → PlaceHas run i n → its_month ≡ its_first run + i
  place_month i h = span_is _ (months_grow kept) (its_first run + i) (whole run n) (record { from = omega (arith, h.from, starts kept i h.inside); to = omega (arith, h.to, ends kept i h.inside) })

  pub place_day_held : (i : ℕ) → PlaceHas run i n → holds_day run n ≡ true
  place_day_held i h = span_held (omega (arith, place_month i h)) (omega (arith, place_month i h, h.inside))

  pub year_day_held : is_covered_day (its_rules run) n ≡ true → holds_year run (year_with (its_rules run) its_month) ≡ true → holds_day run n ≡ true
  year_day_held covered holds =
      let y = year_with (its_rules run) its_month in
      let day = covered_day_told (its_calendar run) n covered in
      let own_year = year_holds _ (steady (its_calendar run)) its_month (covering_day (its_calendar run) (whole run n) day.from day.to) in
      let told = held_year_told (record { kept = kept; holds = holds }) in
      let low = years_in_order _ (steady (its_calendar run)) run.first_year y told.from in
      let high = years_in_order _ (steady (its_calendar run)) (y + 1) (run.first_year + run.years) (omega (arith, told.to)) in
      span_held (omega (arith, low, own_year.from)) (omega (arith, high, own_year.to, own_count kept.own))

-- ---- a day that is held

module _ {run : Run} {n : ℕ} (day : HeldDay run n) where
  kept : Kept run
  kept = day.kept

  -- its month, and the place of that
  abbrev month : ℕ
  month = month_of (its_rules run) (whole run n)

  has : Holds (its_rules run).start month (whole run n)
  has = span_holds _ (months_grow kept) (whole run n)

  from_first : its_first run ≤ month
  from_first = span_from _ (months_grow kept) (its_first run) (whole run n) (omega (arith, day.from, begins kept))

  here : its_first run + (month - its_first run) ≡ month
  here = omega (arith, from_first)

  inside : month - its_first run < run.count
  inside =
      let to : whole run n < (its_rules run).start (its_first run + run.count) = rw (own_count kept.own) (omega (arith, day.to, stops kept)) in
      omega (arith, from_first, span_before _ (months_grow kept) (its_first run + run.count) (whole run n) to)

  covers : Covering (its_rules run) month
  covers = rw here at (own_covering kept (month - its_first run) inside)

  pub held_day_covered : is_covered_day (its_rules run) n ≡ true
  held_day_covered = covered_day_tested (its_calendar run) n (record { from = omega (arith, has.from, starts_covered (its_calendar run) month covers); to = omega (arith, has.to, ends_covered (its_calendar run) month covers) })

  -- the year of its date is one of the run's
  pub held_date_year : holds_year run (year_with (its_rules run) month) ≡ true
  held_date_year =
      let y = year_with (its_rules run) month in
      let own_year = year_holds _ (steady (its_calendar run)) month covers in
      let from : run.first_year < y + 1 = before_year run.first_year (y + 1) (omega (arith, from_first, own_year.to)) in
      let to : y < run.first_year + run.years = before_year y (run.first_year + run.years) (omega (arith, inside, here, own_year.from, own_count kept.own)) in
      rw (le-leb run.first_year y (omega (arith, from)), lt-ltb y (run.first_year + run.years) to)
    where
      -- years are in the order of their months
      before_year : (a b : ℕ) → first_month (its_rules run) a < first_month (its_rules run) b → a < b
      before_year a b h = by_order (ltb a b) refl
        where
          by_order : (t : Bool) → ltb a b ≡ t → a < b
          by_order true e = ltb-true a b e
          by_order false e = absurd (omega (arith, h, years_in_order _ (steady (its_calendar run)) b a (ltb-false a b e)))

  -- exactly one place has it
  pub one_place : OnePlace run n
  one_place =
      let its : Holds (its_rules run).start (its_first run + (month - its_first run)) (whole run n) = rw here has in
      record {
        place = month - its_first run;
        has = record { inside = inside; from = omega (arith, its.from, starts kept _ inside); to = omega (arith, its.to, ends kept _ inside) };
        no_other = λ i h. omega (arith, place_month kept n i h);
      }

  -- ---- its date is looked up

  pub day_small : n < 2 ^ 22
  day_small = omega (arith, day.to, ends_small kept (run.count - 1) (omega (arith, some_month kept)))

  abbrev used : List ℕ
  used = take run.count run.first_days

  all_used : length used ≡ run.count
  all_used = used_length kept _ (own_rows kept.own).days

  at_used : (i d : ℕ) → i < run.count → get_or used i d ≡ get_or run.first_days i 0
  at_used i d h = get_or_default used i d 0 (rw all_used h) ∙ get_or-take run.count run.first_days i 0 h

  -- the months' first days are in order, so that those that have begun come first
  pub begun_first : IsPartitionedBy (λ first. leb first n) used
  begun_first i j d h inside begun =
      let in_run : j < run.count = rw all_used at inside in
      let later_begun = leb-true _ n (rw (at_used j d in_run) at begun) in
      let order = later _ (months_grow kept) (its_first run + i) (its_first run + j) (omega (arith, h)) in
      rw (at_used i d (omega (arith, h, in_run))) (le-leb _ n (omega (arith, later_begun, order, starts kept i (omega (arith, h, in_run)), starts kept j in_run)))

  -- the last of them is the day's
  pub last_begun : (i : ℕ) → IsPartitionPoint (λ first. leb first n ≡ true) (λ first. leb first n ≡ false) used i → i ≤ length used → (1 ≤ i) × LastBegun run.first_days run.count n (i - 1)
  last_begun i (begun, to_come) within =
      let in_run : i ≤ run.count = rw all_used at within in
      let first_begun : i ≡ 0 → ⊥ = λ none. false≢true (sym (to_come 0 0 (omega (arith, none)) (rw all_used (some_month kept))) ∙ rw (at_used 0 0 (some_month kept)) (le-leb _ _ day.from)) in
      let some : 1 ≤ i = omega (arith, first_begun) in
      let next : i - 1 + 1 ≡ i = omega (arith, some) in
      let inside : i - 1 < run.count = omega (arith, some, in_run) in (
        some,
        record {
          inside = inside;
          begun = leb-true _ n (rw (at_used (i - 1) 0 inside) at (begun (i - 1) 0 (omega arith) (omega (arith, some))));
          last = λ more. rw next (leb-false _ n (rw (at_used i 0 (rw next at more)) at (to_come i 0 (omega arith) (rw all_used (rw next at more)))));
        },
      )

  -- the last place that has begun has the day
  module _ {i : ℕ} (found : LastBegun run.first_days run.count n i) where
    pub place_has : PlaceHas run i n
    place_has = record { inside = found.inside; from = found.begun; to = by_place (ltb (i + 1) run.count) refl }
      where
        by_place : (b : Bool) → ltb (i + 1) run.count ≡ b → n < get_or run.first_days i 0 + get_or run.last_dates i 0 % 100
        by_place true e =
            let more = ltb-true (i + 1) run.count e in
            let on : its_first run + (i + 1) ≡ its_first run + i + 1 = omega arith in
            omega (arith, found.last more, rw on at (starts kept (i + 1) more), ends kept i found.inside)
        by_place false e =
            let last : i ≡ run.count - 1 = omega (arith, found.inside, ltb-false (i + 1) run.count e) in
            rw last day.to

    -- .. and tells its date
    pub is_date : date_in (its_rules run) (whole run n) ≡ date_in_month (get_or run.last_dates i 0) (n - get_or run.first_days i 0 + 1)
    is_date =
        let in_month : month ≡ its_first run + i = place_month kept n i place_has in
        let since : whole run n - (its_rules run).start (its_first run + i) + 1 ≡ n - get_or run.first_days i 0 + 1 = omega (arith, starts kept i found.inside, found.begun) in
        let told = told kept i found.inside in
        rw (in_month, told.year, told.month, told.leap, since)
