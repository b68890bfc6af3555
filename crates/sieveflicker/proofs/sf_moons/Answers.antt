-- `sieveflicker::sf_moons` meets its contract: refused before a date is written, or both dates are written.
use Rattle.std.proofs.Common.{refl, sym, ◌∙◌}
use Rattle.sieveflicker.proofs.Written.{moons_follow, too_short, passed_on, stored}
use Rattle.sieveflicker.proofs.sf_moons.Goals as goal

pub returns-then-out-lt2 : goal.returns-then-out-lt2
returns-then-out-lt2 c =
    let at = c.args in
    let l = too_short (moons_follow at.calendar at.year at.month at.leap at.out.now) c.if-out-lt2.true in
    record { refusal = c.number.ensures ∙ l.0; left = l.1 }

pub returns-in-Ok : goal.returns-in-Ok
returns-in-Ok c =
    let at = c.args in
    let l = stored (moons_follow at.calendar at.year at.month at.leap at.out.now) _ _ c.if-out-lt2.false (sym c.in-Ok.ensures) refl c.put_moons.ensures in
    record { refusal = l.0; left = l.1 }

pub returns-in-Err : goal.returns-in-Err
returns-in-Err c =
    let at = c.args in
    let l = passed_on (moons_follow at.calendar at.year at.month at.leap at.out.now) _ c.if-out-lt2.false (sym c.in-Err.ensures) in
    record { refusal = c.number-in-Err.ensures ∙ l.0; left = l.1 }
