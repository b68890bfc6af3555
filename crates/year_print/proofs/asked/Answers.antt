-- `year_print::asked` meets its contract: the line and then its year are asked for, as the definition does, and a refusal goes on as it came.
use Rattle.answers.proofs.Answers.{handed_on_as}
use Rattle.year_print.proofs.Refusals.{answer_asked}
use Rattle.year_print.proofs.asked.Goals as goal

pub returns-in_err-line : goal.returns-in_err-line
returns-in_err-line c = rw (handed_on_as (λ named. named.year) _ _ c.from_residual.ensures.1, answer_asked, ← c.in_err-line.ensures)

pub returns-in_err-year : goal.returns-in_err-year
returns-in_err-year c =
    rw (handed_on_as (λ named. named.year) _ _ c.from_residual-in_err-year.ensures.1, answer_asked, ← c.in_ok-line.ensures, ← c.from-calendar.ensures, ← c.from-number.ensures) c.in_err-year.ensures

pub returns : goal.returns
returns c = rw (answer_asked, ← c.in_ok-line.ensures, ← c.from-calendar.ensures, ← c.from-number.ensures) c.in_ok-year.ensures
