-- What is refused at either end of a run's years: a run of fourteen is not extended, and one of a single year drops none.
use Rattle.std.proofs.Common.{◌≡◌, true, ◌&&◌, ◌+◌, ◌≤◌}
use borrow.Author.Tests.{le-ltb}
use Rattle.answers.specs.Answer.{given, refused, done, left_in}
use Rattle.calendar_range.specs.Range.{is_calendar, rules_for, is_covered}
use Rattle.run_content.specs.declared.Run.{Run}
use Rattle.run_examination.specs.Examined.{is_run}
use Rattle.run_examination.proofs.Examined.{is_kept}
use Rattle.run.specs.Calls.{examined_of, extend_of, drop_of}
use Rattle.run.proofs.Refusals.{extend_refused_9, drop_refused_10}
use Rattle.run.proofs.Steps.{year_alone, found_run}

module _ (run : Run) (is : is_run run ≡ true) where
  pub full_refused : (is_calendar run.calendar && is_covered (rules_for run.calendar) (run.first_year + run.years)) ≡ true → 14 ≤ run.years → extend_of run ≡ refused 9
  full_refused covered full = (extend_refused_9 run).if (is, (year_alone (is_kept run is) _ covered, le-ltb _ _ full))

  pub last_refused : run.years ≤ 1 → drop_of run ≡ refused 10
  last_refused last = (drop_refused_10 run).if (is, le-ltb _ _ last)

-- .. as a call tells it that found a run, and what it leaves
module _ (run x : Run) (found : given x ≡ examined_of run) where
  module _ (covered : (is_calendar run.calendar && is_covered (rules_for run.calendar) (run.first_year + run.years)) ≡ true) (full : 14 ≤ run.years) where
    pub full_told : refused 9 ≡ done (extend_of run)
    full_told = rw (full_refused run (found_run run found) covered full)

    pub full_left : run ≡ left_in run (extend_of run)
    full_left = rw (full_refused run (found_run run found) covered full)

  module _ (last : run.years ≤ 1) where
    pub last_told : refused 10 ≡ done (drop_of run)
    last_told = rw (last_refused run (found_run run found) last)

    pub last_left : run ≡ left_in run (drop_of run)
    last_left = rw (last_refused run (found_run run found) last)
