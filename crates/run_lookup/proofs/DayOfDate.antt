-- The day of a date in an examined run: the date's month stands at one place, or at none if the year lacks it, and the place tells the day.
use mathlib.Core.Path.{◌≡◌, refl, sym, ap, ◌∙◌}
use mathlib.Core.Bool.{Bool, true, false}
use Prim.Native.Nat.{ℕ, zero, suc, ◌+◌, ◌-◌, ◌/◌, ◌%◌, ◌<◌, ◌≤◌}
use native.Mathlib.Omega.{arith}
use mathlib.Core.List.{List, [], ◌∷◌}
use lib.ListN.{length, get_or, take}
use lib.Dec.{eqb}
use Rattle.std.specs.Prelude.{Option, Some, None}
use Rattle.std.specs.List.{position, position_or_len}
use borrow.Author.Tests.{lt-ltb, eqb-true, eq-eqb}
use Rattle.std.proofs.lemmas.List.{get_or-take}
use Rattle.std.proofs.lemmas.List.Quantifiers.{position-Some}
use Rattle.answers.specs.Conditions.{asking}
use Rattle.months_rules.proofs.Calendars.{steady}
use Rattle.months_rules.proofs.FirstMonths.{years_in_order}
use Rattle.months.specs.Months.{month_length, year_with}
use Rattle.months.proofs.YearOfMonth.{year_holds, year_is}
use Rattle.months.proofs.CoveredYears.{its_year, its_days}
use Rattle.calendar_range.specs.Room.{CoveredYear}
use Rattle.calendar_range.proofs.Covered.{covered_year_told}
use Rattle.calendar_range.proofs.Numbers.{year_small}
use Rattle.calendar_month.specs.Asked.{has_month, month_named}
use Rattle.calendar_month.specs.Names.{Named, NamedBack}
use Rattle.calendar_month.proofs.Names.{named_back}
use Rattle.calendar_month.proofs.Covered.{name_found, month_covering}
use Rattle.calendar_date.specs.declared.Date.{Date}
use Rattle.calendar_date.specs.Dates.{day_in, date_number}
use Rattle.calendar_date.proofs.DateNumbers.{OneMonth, one_month, same_month}
use Rattle.run_content.specs.declared.Run.{Run}
use Rattle.run_content.proofs.Content.{its_calendar, its_rules, its_first, own_count, own_rows, own_date, own_covering}
use Rattle.run_content.proofs.LastDates.{last_of, last_small, told}
use Rattle.run_lookup.specs.Held.{day_in_run}
use Rattle.run_lookup.specs.Room.{HeldYear, StandsAt, MonthPlace, day_at}
use Rattle.run_lookup.proofs.Places.{held_year_told, held_year_covered, used_length, starts}

-- the first place that passes a test is none behind one that does ..
first_upto : (p : ℕ → Bool) (l : List ℕ) (j d : ℕ) → j < length l → p (get_or l j d) ≡ true → position_or_len p l ≤ j
first_upto p [] j d h t = absurd (omega (arith, h))
first_upto p (x ∷ l) zero d h t = rw t (omega arith)
first_upto p (x ∷ l) (suc j) d h t = by_test (p x) refl (first_upto p l j d (omega (arith, h)) t)
  where
    by_test : (b : Bool) → p x ≡ b → position_or_len p l ≤ j → position_or_len p (x ∷ l) ≤ suc j
    by_test true e later = rw e (omega arith)
    by_test false e later = rw e (omega (arith, later))

-- .. so that where none is found none does
none_passes : (p : ℕ → Bool) (l : List ℕ) (j d : ℕ) → position p l ≡ None → j < length l → p (get_or l j d) ≡ true → ⊥
none_passes p l j d e h t =
    let below = lt-ltb (position_or_len p l) (length l) (omega (arith, first_upto p l j d h t, h)) in
    let found = rw below at e in
    cc

-- what is asked of a month by its name is asked of any equal name
of_name : {A : Type 0} (f : ℕ → Bool → A) {m n : ℕ} {k l : Bool} → m ≡ n → k ≡ l → f m k ≡ f n l
of_name f e g = rw (e, g)

module _ {run : Run} {y : ℕ} (held : HeldYear run y) where
  covered_year : CoveredYear (its_rules run) y
  covered_year = covered_year_told (its_rules run) y (held_year_covered held)

  pub held_year_small : y ≤ 1684
  held_year_small = year_small run.calendar y (held_year_covered held)

  module _ (m : ℕ) (leap : Bool) where
    abbrev asked_date : Date
    asked_date = record { year = y; month = m; leap = leap; day = 0 }

    abbrev has : Bool
    has = has_month (its_rules run) y m leap

    abbrev named : ℕ
    named = month_named (its_rules run) y m leap

    -- the month that is named stands at a place
    module _ (e : has ≡ true) where
      found : Named (its_rules run) y m leap named
      found = name_found (its_calendar run) y covered_year m leap e

      here : its_first run + (named - its_first run) ≡ named
      here = omega (arith, years_in_order _ (steady (its_calendar run)) run.first_year y (held_year_told held).from, found.of_year.from)

      in_run : named - its_first run < run.count
      in_run =
          let later_years = years_in_order _ (steady (its_calendar run)) (y + 1) (run.first_year + run.years) (omega (arith, (held_year_told held).to)) in
          omega (arith, here, later_years, found.of_year.to, own_count held.kept.own)

      its_name : get_or run.last_dates (named - its_first run) 0 / 100 ≡ date_number asked_date / 100
      its_name =
          let covers_it = month_covering (its_calendar run) y covered_year named found.of_year in
          let year : year_with (its_rules run) named ≡ y = year_is _ (steady (its_calendar run)) named covers_it y found.of_year in
          ap (λ n. n / 100) (own_date held.kept (named - its_first run) in_run)
          ∙ rw (here, year, found.number, found.is_leap_lem) (same_month y m leap (month_length (its_rules run) named) 0 (omega (arith, (its_days (its_calendar run) named covers_it).at_most)) (omega arith))

    -- a place with that name is the named month's
    module _ (i : ℕ) (small : m ≤ 12) (inside : i < run.count) (e : get_or run.last_dates i 0 / 100 ≡ date_number asked_date / 100) where
      agrees : OneMonth (last_of (its_rules run) (its_first run + i)) asked_date
      agrees = one_month (last_of (its_rules run) (its_first run + i)) asked_date (last_small held.kept i inside) (record { year = omega (arith, held_year_small); month = omega (arith, small); day = omega arith }) (sym (ap (λ n. n / 100) (own_date held.kept i inside)) ∙ e)

      back : NamedBack (its_rules run) y (its_first run + i)
      back =
          let covers = own_covering held.kept i inside in
          let of_year = rw agrees.year at (year_holds _ (steady (its_calendar run)) (its_first run + i) covers) in
          let year = rw agrees.year at (its_year (its_calendar run) (its_first run + i) covers) in
          named_back _ (steady (its_calendar run)) y year.months (its_first run + i) of_year

      named_here : StandsAt run y m leap i
      named_here =
          record {
            has = sym (of_name (has_month (its_rules run) y) agrees.month agrees.leap) ∙ back.has;
            inside = inside;
            month = sym (of_name (month_named (its_rules run) y) agrees.month agrees.leap) ∙ back.back;
          }

    all_used : length (take run.count run.last_dates) ≡ run.count
    all_used = used_length held.kept _ (own_rows held.kept.own).dates

    -- the first place with the name is the month's, and there is none if the year lacks it
    pub found_named : m ≤ 12 → MonthPlace run y m leap (position (λ last. eqb (last / 100) (date_number asked_date / 100)) (take run.count run.last_dates))
    found_named small = by_place _ refl
      where
        by_place : (p : Option ℕ) → position (λ last. eqb (last / 100) (date_number asked_date / 100)) (take run.count run.last_dates) ≡ p → MonthPlace run y m leap p
        by_place (Some i) e =
            let (inside, at, _) = position-Some _ (take run.count run.last_dates) i 0 e in
            let in_run : i < run.count = rw all_used at inside in
            named_here i small in_run (rw (get_or-take run.count run.last_dates i 0 in_run) at (eqb-true _ _ at))
        by_place None e = by_test has refl
          where
            by_test : (h : Bool) → has ≡ h → has ≡ false
            by_test true h = absurd (none_passes _ (take run.count run.last_dates) (named - its_first run) 0 e (rw all_used (in_run h)) (rw (get_or-take run.count run.last_dates (named - its_first run) 0 (in_run h)) (eq-eqb _ _ (its_name h))))
            by_test false h = h

-- a month's day is told by the place where it stands
pub day_there : {run : Run} {y m : ℕ} {leap : Bool} {i : ℕ} → HeldYear run y → StandsAt run y m leap i → (d : ℕ) → day_in_run run y m leap d ≡ day_at run i d
unfolding day_in_run day_at asking
day_there {run} {i = i} held at d =
    let length : month_length (its_rules run) (its_first run + i) ≡ get_or run.last_dates i 0 % 100 = sym (told held.kept i at.inside).day in
    let day : day_in (its_rules run) (its_first run + i) d ≡ get_or run.first_days i 0 + d - 1 = omega (arith, starts held.kept i at.inside) in
    rw (held.holds, at.has, at.month, length, day)
