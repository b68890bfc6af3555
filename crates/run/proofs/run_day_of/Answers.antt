-- `run::run_day_of` meets its contract: it examines the run, and then looks the date up in it.
use Rattle.answers.proofs.Answers.{handed_on}
use Rattle.run.proofs.LookedUp.{day_asked}
use Rattle.run.proofs.run_day_of.Goals as goal

pub returns-in_err-examined : goal.returns-in_err-examined
returns-in_err-examined c = rw (handed_on _ _ c.from_residual.ensures.1, day_asked, ← c.in_err-examined.ensures)

pub returns : goal.returns
returns c = rw (day_asked, ← c.in_ok-examined.ensures) c.day_of.ensures
