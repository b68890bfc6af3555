-- The third demand's last sentence: after any calls, a run is that of the years which they leave, and each of its days has one date.
use mathlib.Core.Path.{◌≡◌, refl, sym, ap, ◌∙◌}
use mathlib.Core.Bool.{Bool, true, false, ◌&&◌}
use mathlib.Core.List.{List, [], ◌∷◌}
use Prim.Native.Nat.{ℕ, ◌+◌, ◌-◌, ◌≤◌}
use native.Mathlib.Omega.{arith}
use lib.Dec.{ltb}
use borrow.Author.Tests.{ltb-true}
use Rattle.answers.specs.Answer.{given, left_in}
use Rattle.answers.specs.Conditions.{asking}
use Rattle.answers.proofs.Answers.{one_given}
use Rattle.calendar_range.specs.Range.{is_calendar, rules_for, is_covered}
use Rattle.calendar_range.proofs.Covered.{covered_year_told, covered_year_tested}
use Rattle.calendar_date.specs.declared.Date.{Date}
use Rattle.calendar_date.specs.Dates.{day_of, date_in, date_of}
use Rattle.calendar_date.proofs.Refusals.{date_given}
use Rattle.calendar_date.proofs.OneDate.{date_of_day_of, day_of_date_of}
use Rattle.run_content.specs.declared.Run.{Run}
use Rattle.run_content.specs.Runs.{no_run, run_of}
use Rattle.run_content.specs.Room.{CoveredYears, Kept}
use Rattle.run_content.proofs.Content.{count_fits}
use Rattle.run_examination.specs.Examined.{is_run}
use Rattle.run_examination.proofs.Examined.{KeptYears, kept_is}
use Rattle.run_lookup.specs.Held.{holds_year, holds_day}
use Rattle.run_lookup.proofs.Places.{held_year_covered}
use Rattle.run_lookup.proofs.DateOfDay.{held_day_told, held_day_covered, held_date_year, year_day_held, place_day_held, one_place}
use Rattle.run.specs.Calls.{open_of, extend_of, drop_of, run_day_of, run_date_of}
use Rattle.run.specs.History.{Call, extend, drop, run_after, run_after_all, Years, years_after, years_after_all, OneDate, Demanded}
use Rattle.run.proofs.Refusals.{open_given, run_day_given}

-- ---- what a run answers is the calendar's own

module _ (run : Run) (kept : Kept run) where
  is : is_run run ≡ true
  is = kept_is run kept

  pub its_day : (y m : ℕ) (leap : Bool) (d : ℕ) → holds_year run y ≡ true → run_day_of run y m leap d ≡ day_of run.calendar y m leap d
  unfolding run_day_of day_of asking
  its_day y m leap d holds = rw (is, holds, kept.room.known, held_year_covered (record { kept = kept; holds = holds }))

  pub its_date : (n : ℕ) → holds_day run n ≡ true → run_date_of run n ≡ date_of run.calendar n
  unfolding run_date_of date_of asking
  its_date n holds = rw (is, holds, kept.room.known, held_day_covered (held_day_told kept n holds))

  -- a date that has a day in the run is of one of its years, and has that day in the calendar
  own_day : (t : Date) (n : ℕ) → run_day_of run t.year t.month t.leap t.day ≡ given n → (holds_year run t.year ≡ true) × (day_of run.calendar t.year t.month t.leap t.day ≡ given n)
  own_day t n e =
      let holds = ((run_day_given run t.year t.month t.leap t.day n).only_if e).0.1.0 in
      (holds, sym (its_day t.year t.month t.leap t.day holds) ∙ e)

  one_date : (n : ℕ) → holds_day run n ≡ true → OneDate run n
  one_date n holds =
      let c = run.calendar in
      let t = date_in (rules_for c) (n + (rules_for c).day_zero) in
      let own : date_of c n ≡ given t = (date_given c n t).if ((kept.room.known, (held_day_covered (held_day_told kept n holds), tt)), refl) in
      record {
        date = t;
        found = its_date n holds ∙ own;
        calendars = own;
        back = its_day t.year t.month t.leap t.day (held_date_year (held_day_told kept n holds)) ∙ day_of_date_of c n t own;
        no_other = λ s e. one_given s t (sym (date_of_day_of c s.year s.month s.leap s.day n (own_day s n e).1) ∙ own);
      }

  -- .. and is the date of that day
  back : (t : Date) (n : ℕ) → run_day_of run t.year t.month t.leap t.day ≡ given n → (holds_day run n ≡ true) × (run_date_of run n ≡ given t)
  back t n e =
      let (held, own) = own_day t n e in
      let dated = date_of_day_of run.calendar t.year t.month t.leap t.day n own in
      let (conditions, here) = (date_given run.calendar n t).only_if dated in
      let holds = year_day_held kept n conditions.1.0 (ap (λ (s : Date). holds_year run s.year) here ∙ held) in
      (holds, its_date n holds ∙ dated)

-- ---- a run of some years

module _ (c : ℕ) (y : Years) (years : KeptYears c y.first y.number) where
  abbrev its_run : Run
  its_run = run_of c y.first y.number

  its_kept : Kept its_run
  unfolding run_of
  its_kept = record { own = refl; room = years.room; at_least_1 = years.at_least_1 }

  -- it is as the third demand has it
  pub demanded : Demanded c y its_run
  unfolding run_of
  demanded =
      record {
        content = refl;
        no_11 = kept_is its_run its_kept;
        at_least_1 = years.at_least_1;
        at_most_14 = years.room.at_most_14;
        covered = λ z from to. covered_year_tested (rules_for c) z (record { from = omega (arith, from, years.room.from); to = omega (arith, to, years.room.to) });
        at_most_174 = count_fits its_kept;
        one_place = λ n holds. one_place (held_day_told its_kept n holds);
        one_date = one_date its_run its_kept;
        no_other_day = λ i n. place_day_held its_kept n i;
        one_day = its_day its_run its_kept;
        back = back its_run its_kept;
      }

  -- ---- .. and after a call

  -- a run that has the content of the years that are left
  record Leaves (after : Run) (left : Years) : Type 0 where
    content : after ≡ run_of c left.first left.number
    years_left : KeptYears c left.first left.number

  unchanged : Leaves its_run y
  unchanged = record { content = refl; years_left = years }

  changed : (first number : ℕ) → CoveredYears c first number → 1 ≤ number → Leaves (run_of c first number) (record { first = first; number = number })
  changed first number room some = record { content = refl; years_left = record { room = room; at_least_1 = some } }

  -- the call's other conditions decide, since it is a run
  call_leaves : (call : Call) → Leaves (run_after its_run call) (years_after (rules_for c) y call)
  unfolding extend_of drop_of run_of asking
  call_leaves extend = rw (kept_is its_run its_kept, run_after) (by_tests (is_covered (rules_for c) (y.first + y.number)) (ltb y.number 14) refl refl)
    where
      by_tests : (a b : Bool) → is_covered (rules_for c) (y.first + y.number) ≡ a → ltb y.number 14 ≡ b
          → Leaves (left_in its_run (asking ((a, 2) ∷ (b, 9) ∷ []) (run_of c y.first (y.number + 1)))) (elim (a && b) [ true ↦ record { first = y.first; number = y.number + 1 } | false ↦ y ])
      by_tests true true e f =
          let next = covered_year_told (rules_for c) (y.first + y.number) e in
          changed y.first (y.number + 1) (record { known = years.room.known; from = years.room.from; to = omega (arith, next.to); at_most_14 = omega (arith, ltb-true y.number 14 f) }) (omega arith)
      by_tests true false e f = unchanged
      by_tests false b e f = unchanged
  call_leaves drop = rw (kept_is its_run its_kept, run_after) (by_test (ltb 1 y.number) refl)
    where
      by_test : (b : Bool) → ltb 1 y.number ≡ b → Leaves (left_in its_run (asking ((b, 10) ∷ []) (run_of c (y.first + 1) (y.number - 1)))) (elim b [ true ↦ record { first = y.first + 1; number = y.number - 1 } | false ↦ y ])
      by_test true e =
          let more = ltb-true 1 y.number e in
          changed (y.first + 1) (y.number - 1) (record { known = years.room.known; from = omega (arith, years.room.from); to = omega (arith, years.room.to, more); at_most_14 = omega (arith, years.room.at_most_14) }) (omega (arith, more))
      by_test false e = unchanged

-- ---- any calls, from any run

after_calls : (c : ℕ) (y : Years) → KeptYears c y.first y.number → (run : Run) → run ≡ run_of c y.first y.number → (calls : List Call) → Demanded c (years_after_all (rules_for c) y calls) (run_after_all run calls)
unfolding run_after_all years_after_all
after_calls c y years run e [] = rw e (demanded c y years)
after_calls c y years run e (call ∷ calls) =
    let left = call_leaves c y years call in
    after_calls c (years_after (rules_for c) y call) left.years_left (run_after run call) (ap (λ (x : Run). run_after x call) e ∙ left.content) calls

-- from a run opened at a covered year
pub demanded_after : (c y : ℕ) → is_calendar c ≡ true → is_covered (rules_for c) y ≡ true → (calls : List Call) → Demanded c (years_after_all (rules_for c) (record { first = y; number = 1 }) calls) (run_after_all (left_in no_run (open_of c y)) calls)
demanded_after c y known covered calls =
    let told = covered_year_told (rules_for c) y covered in
    let years : KeptYears c y 1 = record { room = record { known = known; from = told.from; to = omega (arith, told.to); at_most_14 = omega arith }; at_least_1 = omega arith } in
    after_calls c (record { first = y; number = 1 }) years _ (ap (left_in no_run) ((open_given c y (run_of c y 1)).if ((known, (covered, tt)), refl))) calls
