-- A run grows by a year: the year's months go to the places behind its own, one after the other.
use mathlib.Core.Path.{◌≡◌, refl, sym, ap, ◌∙◌}
use mathlib.Core.Bool.{true}
use mathlib.Core.List.{List}
use Prim.Native.Nat.{ℕ, ◌+◌, ◌<◌}
use native.Mathlib.Omega.{arith}
use lib.ListN.{get_or, set}
use Rattle.std.specs.Prelude.{Result, Ok}
use Rattle.answers.specs.declared.Refusal.{Refusal}
use Rattle.answers.specs.Answer.{told}
use Rattle.answers.proofs.Answers.{one_told}
use Rattle.months_rules.specs.FirstMonths.{first_month}
use Rattle.months_rules.proofs.Calendars.{steady}
use Rattle.months.specs.Months.{month_count, year_with}
use Rattle.months.specs.Year.{OfYear}
use Rattle.months.proofs.YearOfMonth.{year_is}
use Rattle.months.proofs.FourteenYears.{at_most_174}
use Rattle.calendar_range.specs.Range.{numbered, rules_for, is_covered}
use Rattle.calendar_range.specs.Room.{CoveredYear}
use Rattle.calendar_range.proofs.Covered.{covered_year_tested}
use Rattle.calendar_range.proofs.Numbers.{year_small}
use Rattle.calendar_month.proofs.Covered.{month_covering}
use Rattle.calendar_year.specs.declared.Month.{Month}
use Rattle.calendar_year.specs.declared.Year.{Year}
use Rattle.calendar_year.specs.Years.{listed, year_in, year_of}
use Rattle.calendar_year.proofs.Covered.{year_room}
use Rattle.calendar_year.proofs.Refusals.{year_given}
use Rattle.calendar_year.proofs.YearLaws.{listed_at}
use Rattle.run_content.specs.declared.Run.{Run}
use Rattle.run_content.specs.Runs.{held_first, held_last, run_of, empty_run}
use Rattle.run_content.specs.Room.{last_date_of, CoveredYears, NextYear, Extendable}
use Rattle.run_content.proofs.Content.{its_calendar, its_rules, its_first, Rows, empty_rows, one_month_more, run_told, own_count}

-- month i of a covered year, with that year, is what a run holds of it
module _ (c y i : ℕ) (d : Month) (covered : CoveredYear (rules_for c) y) (h : i < month_count (rules_for c) y) where
  abbrev month : ℕ
  month = first_month (rules_for c) y + i

  abbrev its_listed : Month
  its_listed = get_or (year_in (rules_for c) y).months i d

  is_listed : its_listed ≡ listed (rules_for c) month
  is_listed = listed_at (numbered c) y covered i d h

  pub first_listed : its_listed.first_day ≡ held_first (rules_for c) month
  first_listed = ap (λ (m : Month). m.first_day) is_listed

  pub last_listed : last_date_of y its_listed ≡ held_last (rules_for c) month
  last_listed =
      let of_year : OfYear (rules_for c) y month = record { from = omega arith; to = omega (arith, h) } in
      let covers = month_covering (numbered c) y covered month of_year in
      let year : year_with (rules_for c) month ≡ y = year_is _ (steady (numbered c)) month covers y of_year in
      ap (last_date_of y) is_listed ∙ ap (λ (n : ℕ). last_date_of n (listed (rules_for c) month)) (sym year)

-- a run of no years
pub none_held : (c first : ℕ) → empty_run c first ≡ run_of c first 0
none_held c first =
    let here : first + 0 ≡ first = omega arith in
    run_told c first 0 0 (rw here (omega arith)) (empty_rows {run = empty_run c first} refl (rules_for c) (first_month (rules_for c) first))

-- a run that has the content of so many years from a first one on
module _ (c first held : ℕ) {run : Run} (e : run ≡ run_of c first held) where
  -- .. and not yet of all that are to be held
  pub still_extendable : (years : ℕ) → CoveredYears c first years → held < years → Extendable run
  unfolding run_of
  still_extendable years room more =
      rw e (record { own = refl; room = record { known = room.known; from = room.from; to = omega (arith, room.to, more); at_most_14 = omega (arith, room.at_most_14, more) } })

  -- a year more makes the run of a year more
  pub one_year_more : {after : Run} → after ≡ run_of run.calendar run.first_year (run.years + 1) → after ≡ run_of c first (held + 1)
  unfolding run_of
  one_year_more f = rw e at f

-- ---- the year after a run's last

module _ {run : Run} (h : Extendable run) where
  abbrev year : ℕ
  year = run.first_year + run.years

  -- it is covered, so that `year_of` answers with it
  next_covered : CoveredYear (its_rules run) year
  next_covered = record { from = omega (arith, h.room.from); to = omega (arith, h.room.to) }

  is_covered_lem : is_covered (its_rules run) year ≡ true
  is_covered_lem = covered_year_tested (its_rules run) year next_covered

  pub next_answered : (answer : Result Year Refusal) → told answer ≡ year_of run.calendar year → answer ≡ Ok (year_in (its_rules run) year)
  next_answered answer e = one_told answer (Ok (year_in (its_rules run) year)) (e ∙ (year_given run.calendar year _).if ((h.room.known, (is_covered_lem, tt)), refl))

  module _ {next : Year} (is_next : next ≡ year_in (its_rules run) year) where
    next_count : next.count ≡ month_count (its_rules run) year
    unfolding year_in
    next_count = ap (λ (y : Year). y.count) is_next

    ends : its_first run + (run.count + next.count) ≡ first_month (its_rules run) (run.first_year + (run.years + 1))
    ends =
        let on : run.first_year + (run.years + 1) ≡ year + 1 = omega arith in
        rw on (omega (arith, own_count h.own, next_count, (year_room (its_calendar run) year next_covered).at_least))

    -- there is room for its months
    pub next_year : NextYear run next
    next_year =
        record {
          extendable = h;
          year = is_next;
          year_small = year_small run.calendar year is_covered_lem;
          at_most_13 = omega (arith, next_count, (year_room (its_calendar run) year next_covered).at_most);
          fits = omega (arith, ends, at_most_174 (its_calendar run) run.first_year (run.years + 1) h.room.at_most_14);
        }

-- ---- .. is at hand

module _ {run : Run} {next : Year} (h : NextYear run next) where
  -- one more of its months goes to the next place
  pub month_placed : (i : ℕ) (d : Month) → i < next.count → {days dates : List ℕ} {n : ℕ} → n ≡ last_date_of (year h.extendable) (get_or next.months i d) → Rows (its_rules run) (its_first run) (run.count + i) days dates
      → Rows (its_rules run) (its_first run) (run.count + (i + 1)) (set days (run.count + i) (get_or next.months i d).first_day) (set dates (run.count + i) n)
  month_placed i d inside e rows =
      let covered = next_covered h.extendable in
      let in_year_lem : i < month_count (its_rules run) (year h.extendable) = omega (arith, inside, next_count h.extendable h.year) in
      let here : first_month (its_rules run) (year h.extendable) + i ≡ its_first run + (run.count + i) = omega (arith, own_count h.extendable.own) in
      let on : run.count + (i + 1) ≡ run.count + i + 1 = omega arith in
      rw on
      (one_month_more rows (omega (arith, inside, h.fits)) (rw (h.year, ← here) (first_listed run.calendar _ i d covered in_year_lem)) (e ∙ rw (h.year, ← here) (last_listed run.calendar _ i d covered in_year_lem)))

  -- what is put down in the two rows leaves the rest of a run as it was
  pub others_kept : {after : Run} {days dates : List ℕ} → after ≡ record run { first_days = after.first_days; last_dates = after.last_dates } → record after { first_days = days; last_dates = dates } ≡ record run { first_days = days; last_dates = dates }
  others_kept {days = days} {dates} e = ap (λ (x : Run). record x { first_days = days; last_dates = dates }) e

  -- all of them together make the run that is longer by the year
  pub year_held : {after : Run} → after ≡ record run { first_days = after.first_days; last_dates = after.last_dates } → Rows (its_rules run) (its_first run) (run.count + next.count) after.first_days after.last_dates
      → record after { years = after.years + 1; count = after.count + next.count } ≡ run_of run.calendar run.first_year (run.years + 1)
  year_held others rows =
      ap (λ (x : Run). record x { years = x.years + 1; count = x.count + next.count }) others
      ∙ run_told run.calendar run.first_year (run.years + 1) (run.count + next.count) (ends h.extendable h.year) rows
