-- Before each turn the year's months so far stand behind the run's own, and nothing else has changed.
use Rattle.std.proofs.Common.{◌≡◌, ◌+◌}
use Rattle.run_content.proofs.Content.{its_rules, its_first, Rows}
use Rattle.run_content.proofs.with_year.Given as goal

abbrev pub invariant-loop-listed : goal.invariant-loop-listed
invariant-loop-listed l =
    record {
      others : l.run ≡ record l.initial.run { first_days = l.run.first_days; last_dates = l.run.last_dates };
      rows : Rows (its_rules l.initial.run) (its_first l.initial.run) (l.initial.run.count + l.listed) l.run.first_days l.run.last_dates;
    }
