-- What the examination of a run tells: it passes exactly if the run has the content of 1 to 14 covered years.
use mathlib.Core.Path.{◌≡◌, sym, ap, ◌∙◌}
use mathlib.Core.Bool.{Bool, true, ◌&&◌, and-eq-true_iff}
use Prim.Native.Nat.{ℕ, ◌+◌, ◌-◌, ◌≤◌}
use native.Mathlib.Omega.{arith}
use lib.Dec.{leb}
use borrow.Author.Tests.{le-leb, leb-true}
use Rattle.calendar_range.specs.Range.{is_calendar, rules_for, is_covered}
use Rattle.calendar_range.proofs.Covered.{covered_year_told, covered_year_tested}
use Rattle.run_content.specs.declared.Run.{Run}
use Rattle.run_content.specs.Runs.{run_of}
use Rattle.run_content.specs.Room.{CoveredYears, Kept}
use Rattle.run_examination.specs.Examined.{same_run, can_be_kept, is_run}
use Rattle.run_examination.proofs.Same.{tells_runs}

-- ---- the years that can be kept

-- covered years, one to fourteen
pub record KeptYears (c first years : ℕ) : Type 0 where
  pub room : CoveredYears c first years
  pub at_least_1 : 1 ≤ years

module _ (c first years : ℕ) where
  -- they pass the test ..
  pub kept_told : can_be_kept c first years ≡ true → KeptYears c first years
  unfolding can_be_kept
  kept_told h =
      let (number, covered) = (and-eq-true_iff (leb 1 years && leb years 14) _).0 h in
      let (low, high) = (and-eq-true_iff (leb 1 years) (leb years 14)).0 number in
      let (known, both) = (and-eq-true_iff (is_calendar c) _).0 covered in
      let (of_first, of_last) = (and-eq-true_iff (is_covered (rules_for c) first) (is_covered (rules_for c) (first + years - 1))).0 both in
      let some = leb-true 1 years low in
      record {
        room = record {
          known = known;
          from = (covered_year_told (rules_for c) first of_first).from;
          to = omega (arith, some, (covered_year_told (rules_for c) (first + years - 1) of_last).to);
          at_most_14 = leb-true years 14 high;
        };
        at_least_1 = some;
      }

  -- .. exactly if they are so
  pub kept_tested : KeptYears c first years → can_be_kept c first years ≡ true
  unfolding can_be_kept
  kept_tested h =
      let room = h.room in
      rw
      (le-leb 1 years h.at_least_1, le-leb years 14 room.at_most_14, room.known, covered_year_tested (rules_for c) first (record { from = room.from; to = omega (arith, room.to, h.at_least_1) }), covered_year_tested (rules_for c) (first + years - 1) (record { from = omega (arith, room.from, h.at_least_1); to = omega (arith, room.to, h.at_least_1) }))

-- ---- the run

module _ (run : Run) where
  abbrev can_be : Bool
  can_be = can_be_kept run.calendar run.first_year run.years

  abbrev rule : Run
  rule = run_of run.calendar run.first_year run.years

  -- what passes has the content of its years ..
  pub is_kept : is_run run ≡ true → Kept run
  unfolding is_run
  is_kept h =
      let (can, same) = (and-eq-true_iff can_be (same_run run rule)).0 h in
      let years = kept_told run.calendar run.first_year run.years can in
      record { own = tells_runs.one run rule same; room = years.room; at_least_1 = years.at_least_1 }

  -- .. and what has it passes
  pub kept_is : Kept run → is_run run ≡ true
  unfolding is_run
  kept_is h =
      let same : same_run run rule ≡ true = ap (same_run run) (sym h.own) ∙ tells_runs.itself run in
      rw (kept_tested run.calendar run.first_year run.years (record { room = h.room; at_least_1 = h.at_least_1 }), same)
