-- A run loses its first year: the months behind it move up to the front.
use mathlib.Core.Path.{◌≡◌, refl, sym, ◌∙◌}
use mathlib.Core.Bool.{Bool, true, false}
use mathlib.Core.List.{List}
use Prim.Native.Nat.{ℕ, ◌+◌, ◌-◌, ◌/◌, ◌%◌, ◌<◌}
use native.Mathlib.Omega.{arith}
use lib.Dec.{ltb}
use lib.ListN.{get_or}
use borrow.Author.Tests.{ltb-true, ltb-false}
use Rattle.numbers.specs.Places.{places}
use Rattle.months_rules.specs.FirstMonths.{first_month}
use Rattle.months_rules.proofs.Calendars.{steady}
use Rattle.months_rules.proofs.FirstMonths.{years_in_order}
use Rattle.months.specs.Months.{month_count}
use Rattle.months.specs.Room.{Covering}
use Rattle.months.specs.Year.{OfYear}
use Rattle.months.proofs.YearOfMonth.{year_holds, year_is}
use Rattle.calendar_range.specs.Room.{CoveredYear}
use Rattle.calendar_range.proofs.Covered.{covered_year_tested}
use Rattle.calendar_range.proofs.Numbers.{year_small}
use Rattle.calendar_year.proofs.Covered.{YearRoom, year_room}
use Rattle.run_content.specs.declared.Run.{Run}
use Rattle.run_content.specs.Room.{moved_up, Kept, Droppable}
use Rattle.run_content.specs.Runs.{held_first, held_last, run_of}
use Rattle.run_content.proofs.Content.{its_calendar, its_rules, its_first, run_told, own_count, own_rows, own_covering, count_fits}
use Rattle.run_content.proofs.Moving.{moved}
use Rattle.run_content.proofs.LastDates.{told}

-- month 1 of a run's second year
abbrev pub second : Run → ℕ
second run = first_month (its_rules run) (run.first_year + 1)

module _ {run : Run} (kept : Kept run) (more : 1 < run.years) where
  -- its first two years are covered
  covered : (y : ℕ) → y < 2 → CoveredYear (its_rules run) (run.first_year + y)
  covered y h = record { from = omega (arith, kept.room.from); to = omega (arith, kept.room.to, more, h) }

  oldest_room : YearRoom (its_rules run) run.first_year
  oldest_room = let here : run.first_year + 0 ≡ run.first_year = omega arith in rw here at (year_room (its_calendar run) (run.first_year + 0) (covered 0 (omega arith)))

  pub droppable : Droppable run
  droppable =
      let later = years_in_order _ (steady (its_calendar run)) (run.first_year + 1) (run.first_year + run.years) (omega (arith, more)) in
      let small = year_small run.calendar (run.first_year + 1) (covered_year_tested (its_rules run) (run.first_year + 1) (covered 1 (omega arith))) in
      record {
        kept = kept;
        more = more;
        year_small = omega (arith, small);
        oldest_held = omega (arith, oldest_room.at_least, later, own_count kept.own);
        fits = count_fits kept;
      }

  -- a thirteenth place is used
  thirteen_held : 12 < run.count
  thirteen_held =
      let next = year_room (its_calendar run) (run.first_year + 1) (covered 1 (omega arith)) in
      let later = years_in_order _ (steady (its_calendar run)) (run.first_year + 1 + 1) (run.first_year + run.years) (omega (arith, more)) in
      omega (arith, oldest_room.at_least, next.at_least, later, own_count kept.own)

-- ---- how many months its first year has

module _ {run : Run} (h : Droppable run) where
  inside : 12 < run.count
  inside = thirteen_held h.kept h.more

  covers : Covering (its_rules run) (its_first run + 12)
  covers = own_covering h.kept 12 inside

  abbrev year_at12 : ℕ
  year_at12 = get_or run.last_dates 12 0 % 100000000 / 10000

  pub thirteen_told : year_at12 ≡ run.first_year → 13 ≡ month_count (its_rules run) run.first_year
  thirteen_told e =
      let held = year_holds _ (steady (its_calendar run)) (its_first run + 12) covers in
      let own = sym (told h.kept 12 inside).year ∙ e in
      omega (arith, rw own at held.to, (oldest_room h.kept h.more).at_most)

  pub twelve_told : (year_at12 ≡ run.first_year → ⊥) → 12 ≡ month_count (its_rules run) run.first_year
  twelve_told other = by_order (ltb (its_first run + 12) (second run)) refl
    where
      by_order : (b : Bool) → ltb (its_first run + 12) (second run) ≡ b → 12 ≡ month_count (its_rules run) run.first_year
      by_order true e =
          let of_first : OfYear (its_rules run) run.first_year (its_first run + 12) = record { from = omega arith; to = ltb-true _ _ e } in
          absurd (other ((told h.kept 12 inside).year ∙ year_is _ (steady (its_calendar run)) (its_first run + 12) covers run.first_year of_first))
      by_order false e =
          omega (arith, ltb-false (its_first run + 12) (second run) e, (oldest_room h.kept h.more).at_least)

-- ---- they go, so many, and the others move up

module _ {run : Run} (h : Droppable run) {oldest : ℕ} (is_oldest : oldest ≡ month_count (its_rules run) run.first_year) where
  count : its_first run + oldest ≡ second run
  count = omega (arith, is_oldest, (oldest_room h.kept h.more).at_least)

  -- a row that holds its months holds the later ones when they have moved up
  row_moved : (thing : ℕ → ℕ) {l : List ℕ} → l ≡ places 0 thing (its_first run) run.count 174 → moved_up l oldest run.count ≡ places 0 thing (second run) (run.count - oldest) 174
  row_moved thing e = rw (e, ← count) (moved thing (its_first run) run.count 174 oldest (rw is_oldest h.oldest_held) h.fits)

  -- both of them make the run that is shorter by the year
  pub oldest_dropped : record { calendar = run.calendar; first_year = run.first_year + 1; years = run.years - 1; count = run.count - oldest; first_days = moved_up run.first_days oldest run.count; last_dates = moved_up run.last_dates oldest run.count } ≡ run_of run.calendar (run.first_year + 1) (run.years - 1)
  oldest_dropped =
      let on : run.first_year + 1 + (run.years - 1) ≡ run.first_year + run.years = omega (arith, h.more) in
      let own = own_rows h.kept.own in
      run_told run.calendar (run.first_year + 1) (run.years - 1) (run.count - oldest) (rw on (omega (arith, own_count h.kept.own, count, is_oldest, h.oldest_held)))
      (record { days = row_moved (held_first (its_rules run)) own.days; dates = row_moved (held_last (its_rules run)) own.dates })
