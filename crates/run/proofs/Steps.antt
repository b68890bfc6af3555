-- The calls' definitions, step by step as the code takes them.
use mathlib.Core.Path.{◌≡◌, refl, sym, ap}
use mathlib.Core.Bool.{Bool, true, false, ◌&&◌}
use mathlib.Core.List.{[], ◌∷◌}
use Prim.Native.Nat.{ℕ, ◌+◌, ◌<◌}
use native.Mathlib.Omega.{arith}
use Rattle.std.specs.Prelude.{Result, Ok, Err}
use Rattle.answers.specs.Answer.{given, refused, told, then, left_in}
use Rattle.answers.specs.declared.Refusal.{Refusal}
use Rattle.answers.specs.Conditions.{asking}
use Rattle.answers.proofs.Answers.{not_given, one_refusal}
use Rattle.answers.proofs.Conditions.{then_asking, given_exactly}
use Rattle.months_rules.specs.declared.Calendar.{Calendar}
use Rattle.calendar_range.specs.Range.{is_calendar, rules_for, is_covered, year_asked}
use Rattle.calendar_range.proofs.Covered.{asked_given, covered_year_told}
use Rattle.run_content.specs.declared.Run.{Run}
use Rattle.run_content.specs.Runs.{run_of, no_run}
use Rattle.run_content.specs.Room.{CoveredYears, Kept, Extendable}
use Rattle.run_content.proofs.Content.{its_rules}
use Rattle.run_examination.specs.Examined.{is_run}
use Rattle.run.specs.Calls.{Unwrapped, examined_of, open_of}

-- ---- opening: a year that was asked for, and is covered

pub open_asked : (c y : ℕ) → open_of c y ≡ then (year_asked c y) (λ a. asking [] (run_of c a.1 1))
unfolding year_asked open_of
open_asked c y = then_asking _ _ _ _

pub opened_room : (c y : ℕ) (k : Calendar) (x : ℕ) → year_asked c y ≡ given (k, x) → CoveredYears c x 1
opened_room c y k x e =
    let g = (asked_given c y (k, x)).only_if e in
    let covered = covered_year_told (rules_for c) y g.0.1.0 in
    let year : x ≡ y = sym (ap (λ (a : Calendar × ℕ). a.1) g.1) in
    record { known = g.0.0; from = omega (arith, covered.from, year); to = omega (arith, covered.to, year); at_most_14 = omega arith }

-- what is told of an opening tells what `unwrap_or_default` gives of it
pub unwrapped_told : (c y : ℕ) (opened : Result Run Refusal) → told opened ≡ open_of c y → Unwrapped opened (left_in no_run (open_of c y))
unwrapped_told c y (Ok x) e run found = rw (← e, found)
unwrapped_told c y (Err refusal) e run zeros = rw (← e, zeros)

-- ---- a run that was examined

module _ {run : Run} (kept : Kept run) where
  -- its calendar is known, so that the test of calendar and year tells of the year alone
  pub year_alone : (y : ℕ) {b : Bool} → (is_calendar run.calendar && is_covered (its_rules run) y) ≡ b → is_covered (its_rules run) y ≡ b
  year_alone y h = rw kept.room.known at h

  -- there is room for a year more
  pub can_extend : is_covered (its_rules run) (run.first_year + run.years) ≡ true → run.years < 14 → Extendable run
  can_extend covered more =
      let next = covered_year_told (its_rules run) (run.first_year + run.years) covered in
      record { own = kept.own; room = record { known = kept.room.known; from = kept.room.from; to = omega (arith, next.to); at_most_14 = omega (arith, more) } }

-- ---- the examination

pub passed : (run : Run) → is_run run ≡ true → given run ≡ examined_of run
unfolding examined_of asking
passed run is = rw is

pub failed : (run : Run) → is_run run ≡ false → refused 11 ≡ examined_of run
unfolding examined_of asking
failed run none = rw none

-- what is found to be a run is one, and what is refused is none
pub found_run : (run : Run) {x : Run} → given x ≡ examined_of run → is_run run ≡ true
unfolding examined_of
found_run run {x} e = ((given_exactly ((is_run run, 11) ∷ []) run x).only_if (sym e)).0.0

pub refused_run : (run : Run) {n : ℕ} → refused n ≡ examined_of run → (is_run run ≡ false) × (n ≡ 11)
unfolding examined_of asking
refused_run run {n} e = by_test (is_run run) refl
  where
    by_test : (b : Bool) → is_run run ≡ b → (is_run run ≡ false) × (n ≡ 11)
    by_test true h = absurd (not_given n run (rw h at e))
    by_test false h = (h, one_refusal n 11 (rw h at e))
