-- `calendar_eclipses::asked_eclipse` meets its contract: what is no calendar and Genka are refused first, and of Senmyo the rest is asked as of any month.
use Rattle.answers.proofs.Answers.{handed_on}
use Rattle.calendar_eclipses.proofs.Steps.{not_genka, calendar_refused, genka_refused, senmyo_not_2}
use Rattle.calendar_eclipses.proofs.asked_eclipse.Goals as goal

pub returns-in_err-try_from : goal.returns-in_err-try_from
returns-in_err-try_from c = rw (handed_on _ _ c.from_residual.ensures.1) (calendar_refused _ _ _ _ _ c.in_err-try_from.ensures)

pub returns-in-Genka : goal.returns-in-Genka
returns-in-Genka c = genka_refused _ _ _ _ (rw c.in-Genka.is at c.in_ok-try_from.ensures)

pub returns-in_err-found-in-Senmyo : goal.returns-in_err-found-in-Senmyo
returns-in_err-found-in-Senmyo c =
    let not_2 = senmyo_not_2 _ (rw c.in-Senmyo.is at c.in_ok-try_from.ensures) in
    rw (handed_on _ _ c.from_residual-in_err-found-in-Senmyo.ensures.1, not_genka c.args.calendar _ _ _ not_2, ← c.in_err-found-in-Senmyo.ensures)

pub returns-in_ok-found-in-Senmyo : goal.returns-in_ok-found-in-Senmyo
returns-in_ok-found-in-Senmyo c =
    let not_2 = senmyo_not_2 _ (rw c.in-Senmyo.is at c.in_ok-try_from.ensures) in
    rw (not_genka c.args.calendar _ _ _ not_2, ← c.in_ok-found-in-Senmyo.ensures)
