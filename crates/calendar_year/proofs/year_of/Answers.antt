-- `calendar_year::year_of` meets its contract: a year that is found is worked out.
use Rattle.answers.proofs.Answers.{handed_on}
use Rattle.calendar_year.proofs.Steps.{months_asked}
use Rattle.calendar_year.proofs.year_of.Goals as goal

pub returns-in_err-known : goal.returns-in_err-known
returns-in_err-known c = rw (handed_on _ _ c.from_residual.ensures.1, months_asked, ← c.in_err-known.ensures)

pub returns : goal.returns
returns c = rw (months_asked, ← c.in_ok-known.ensures, c.year_in.ensures)
