-- `sieveflicker::sf_hours` meets its contract: refused before a number is written, or all twelve are written.
use Rattle.std.proofs.Common.{refl, sym, ◌∙◌, arith}
use Rattle.calendar_hours.proofs.HoursLaws.{given_small}
use Rattle.sieveflicker.proofs.Written.{hours_follow, too_short, passed_on, stored}
use Rattle.sieveflicker.proofs.sf_hours.Goals as goal

pub returns-then-out-lt12 : goal.returns-then-out-lt12
returns-then-out-lt12 c =
    let at = c.args in
    let l = too_short (hours_follow at.calendar at.year at.month at.leap at.out.now) c.if-out-lt12.true in
    record { refusal = c.number.ensures ∙ l.0; left = l.1 }

pub put_hours-requires : goal.put_hours-requires
put_hours-requires c =
    record { hours_small = given_small _ _ _ _ _ (sym c.in-Ok.ensures); in_bounds = omega (arith, c.if-out-lt12.false) }

pub returns-in-Ok : goal.returns-in-Ok
returns-in-Ok c =
    let at = c.args in
    let l = stored (hours_follow at.calendar at.year at.month at.leap at.out.now) _ _ c.if-out-lt12.false (sym c.in-Ok.ensures) refl c.put_hours.ensures in
    record { refusal = l.0; left = l.1 }

pub returns-in-Err : goal.returns-in-Err
returns-in-Err c =
    let at = c.args in
    let l = passed_on (hours_follow at.calendar at.year at.month at.leap at.out.now) _ c.if-out-lt12.false (sym c.in-Err.ensures) in
    record { refusal = c.number-in-Err.ensures ∙ l.0; left = l.1 }
