-- `run::run_date_of` meets its contract: it examines the run, and then looks the day up in it.
use Rattle.answers.proofs.Answers.{handed_on}
use Rattle.run.proofs.LookedUp.{date_asked}
use Rattle.run.proofs.run_date_of.Goals as goal

pub returns-in_err-examined : goal.returns-in_err-examined
returns-in_err-examined c = rw (handed_on _ _ c.from_residual.ensures.1, date_asked, ← c.in_err-examined.ensures)

pub returns : goal.returns
returns c = rw (date_asked, ← c.in_ok-examined.ensures) c.date_of.ensures
