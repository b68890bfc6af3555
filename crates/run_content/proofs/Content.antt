-- What a run holds that has the content of its years: its months are those from month 1 of its first year up to month 1 of the year after its last.
use mathlib.Core.Path.{◌≡◌, sym, ap, ◌∙◌}
use mathlib.Core.List.{List}
use Prim.Native.Nat.{ℕ, ◌+◌, ◌-◌, ◌<◌, ◌≤◌}
use native.Mathlib.Omega.{arith}
use lib.ListN.{get_or, set}
use Rattle.numbers.specs.Places.{places}
use Rattle.numbers.proofs.Places.{at_place, none_placed, put_down}
use Rattle.months_rules.specs.declared.Calendar.{Calendar}
use Rattle.months_rules.specs.Rules.{Rules}
use Rattle.months_rules.specs.FirstMonths.{first_month}
use Rattle.months_rules.proofs.Calendars.{steady}
use Rattle.months_rules.proofs.FirstMonths.{in_order, years_in_order}
use Rattle.months.specs.Room.{Covering}
use Rattle.months.proofs.FourteenYears.{at_most_174}
use Rattle.months.proofs.CoveredYears.{after_first}
use Rattle.calendar_range.specs.Range.{numbered, rules_for}
use Rattle.run_content.specs.declared.Run.{Run}
use Rattle.run_content.specs.Runs.{held_first, held_last, run_of, empty_run}
use Rattle.run_content.specs.Room.{Kept}

-- a run's calendar, its rules, and the first of its months
abbrev pub its_calendar : Run → Calendar
its_calendar run = numbered run.calendar

abbrev pub its_rules : Run → Rules
its_rules run = rules_for run.calendar

abbrev pub its_first : Run → ℕ
its_first run = first_month (its_rules run) run.first_year

-- two rows: of so many months from month k on the first days and the last dates, and zeros behind them
pub record Rows (r : Rules) (k count : ℕ) (first_days last_dates : List ℕ) : Type 0 where
  pub days : first_days ≡ places 0 (held_first r) k count 174
  pub dates : last_dates ≡ places 0 (held_last r) k count 174

-- of none, in an empty run ..
pub empty_rows : {run : Run} {c first : ℕ} → run ≡ empty_run c first → (r : Rules) (k : ℕ) → Rows r k 0 run.first_days run.last_dates
empty_rows e r k = rw e (record { days = sym (none_placed 0 (held_first r) k 174); dates = sym (none_placed 0 (held_last r) k 174) })

-- .. and of one more, which goes to the next place
pub one_month_more : {r : Rules} {k i : ℕ} {days dates : List ℕ} {m n : ℕ} → Rows r k i days dates → i < 174 → m ≡ held_first r (k + i) → n ≡ held_last r (k + i) → Rows r k (i + 1) (set days i m) (set dates i n)
one_month_more {r} {k} {i} {days} {dates} {m} {n} rows inside e f =
    record { days = put_down 0 (held_first r) k i 174 days m inside rows.days e; dates = put_down 0 (held_last r) k i 174 dates n inside rows.dates f }

-- a run is told by its head, its count and its two rows
pub run_told : (c first years count : ℕ) {days dates : List ℕ} → first_month (rules_for c) first + count ≡ first_month (rules_for c) (first + years) → Rows (rules_for c) (first_month (rules_for c) first) count days dates
    → record { calendar = c; first_year = first; years = years; count = count; first_days = days; last_dates = dates } ≡ run_of c first years
unfolding run_of
run_told c first years count ends rows =
    let count_is : first_month (rules_for c) (first + years) - first_month (rules_for c) first ≡ count = omega (arith, ends) in
    rw (count_is, rows.days, rows.dates)

module _ {run : Run} (own : run ≡ run_of run.calendar run.first_year run.years) where
  counted : run.count ≡ first_month (its_rules run) (run.first_year + run.years) - its_first run
  unfolding run_of
  counted = ap (λ (x : Run). x.count) own

  -- as many months as lie between the two
  pub own_count : its_first run + run.count ≡ first_month (its_rules run) (run.first_year + run.years)
  own_count = omega (arith, counted, in_order _ (steady (its_calendar run)) run.first_year run.years)

  pub own_rows : Rows (its_rules run) (its_first run) run.count run.first_days run.last_dates
  unfolding run_of
  own_rows = rw counted (record { days = ap (λ (x : Run). x.first_days) own; dates = ap (λ (x : Run). x.last_dates) own })

module _ {run : Run} (kept : Kept run) where
  -- there is a place for each
  pub count_fits : run.count ≤ 174
  count_fits = omega (arith, own_count kept.own, at_most_174 (its_calendar run) run.first_year run.years kept.room.at_most_14)

  -- what stands at a place
  module _ (i : ℕ) (inside : i < run.count) where
    pub own_day : get_or run.first_days i 0 ≡ held_first (its_rules run) (its_first run + i)
    own_day = ap (λ (l : List ℕ). get_or l i 0) (own_rows kept.own).days ∙ at_place 0 (held_first (its_rules run)) (its_first run) run.count 174 i 0 inside count_fits

    pub own_date : get_or run.last_dates i 0 ≡ held_last (its_rules run) (its_first run + i)
    own_date = ap (λ (l : List ℕ). get_or l i 0) (own_rows kept.own).dates ∙ at_place 0 (held_last (its_rules run)) (its_first run) run.count 174 i 0 inside count_fits

    -- each of its months is one of a covered year
    pub own_covering : Covering (its_rules run) (its_first run + i)
    own_covering =
        let last = years_in_order _ (steady (its_calendar run)) (run.first_year + run.years) ((its_rules run).last_year + 1) kept.room.to in
        record {
          from = omega (arith, after_first (its_calendar run) run.first_year kept.room.from);
          to = omega (arith, inside, own_count kept.own, last);
        }
