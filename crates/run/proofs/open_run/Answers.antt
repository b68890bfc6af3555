-- `run::open_run` meets its contract: a year that is covered gives the run of that one year.
use Rattle.std.proofs.Common.{sym, arith, Ok}
use Rattle.answers.proofs.Answers.{handed_on}
use Rattle.answers.specs.Conditions.{asking}
use Rattle.calendar_range.proofs.Numbers.{calendar_small}
use Rattle.run.proofs.Steps.{open_asked, opened_room, unwrapped_told}
use Rattle.run.proofs.open_run.Goals as goal

pub returns-in_err-known-clause-opened : goal.returns-in_err-known-clause-opened
returns-in_err-known-clause-opened c = rw (handed_on _ _ c.from_residual.ensures.1, open_asked, ← c.in_err-known.ensures)

pub returns-in_err-known-clause-unwrapped : goal.returns-in_err-known-clause-unwrapped
returns-in_err-known-clause-unwrapped c = unwrapped_told _ _ _ (returns-in_err-known-clause-opened c)

pub overflow_cast-calendar : goal.overflow_cast-calendar
overflow_cast-calendar c =
    omega (arith, calendar_small c.args.calendar (opened_room _ _ _ _ (sym c.in_ok-known.ensures)).known)

pub run_of-requires : goal.run_of-requires
run_of-requires c = opened_room _ _ _ _ (sym c.in_ok-known.ensures)

pub returns-clause-opened : goal.returns-clause-opened
unfolding asking
returns-clause-opened c = rw (open_asked, ← c.in_ok-known.ensures, c.run_of.ensures)

pub returns-clause-unwrapped : goal.returns-clause-unwrapped
returns-clause-unwrapped c = unwrapped_told _ _ (Ok c.run_of.result) (returns-clause-opened c)
