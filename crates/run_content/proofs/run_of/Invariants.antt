-- Before each turn the run has the content of the years so far.
use Rattle.std.proofs.Common.{◌≡◌}
use Rattle.run_content.specs.Runs.{run_of}
use Rattle.run_content.proofs.run_of.Given as goal

abbrev pub invariant-loop : goal.invariant-loop
invariant-loop l = l.run ≡ run_of l.calendar l.first_year l.counter
