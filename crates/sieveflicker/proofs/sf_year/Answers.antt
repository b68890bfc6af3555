-- `sieveflicker::sf_year` meets its contract: refused before a number is written, or the year's numbers are written.
use Rattle.std.proofs.Common.{sym, ◌∙◌}
use Rattle.sieveflicker.proofs.Written.{year_follows, too_short, passed_on, stored}
use Rattle.sieveflicker.proofs.Sizes.{year_size}
use Rattle.sieveflicker.proofs.sf_year.Goals as goal

pub returns-then-out-lt55 : goal.returns-then-out-lt55
returns-then-out-lt55 c =
    let l = too_short (year_follows c.args.calendar c.args.year c.args.out.now) c.if-out-lt55.true in
    record { refusal = c.number.ensures ∙ l.0; left = l.1 }

pub returns-in-Ok : goal.returns-in-Ok
returns-in-Ok c =
    let e = sym c.in-Ok.ensures in
    let l = stored (year_follows c.args.calendar c.args.year c.args.out.now) _ _ c.if-out-lt55.false e (year_size _ _ _ e) c.put_year.ensures in
    record { refusal = l.0; left = l.1 }

pub returns-in-Err : goal.returns-in-Err
returns-in-Err c =
    let l = passed_on (year_follows c.args.calendar c.args.year c.args.out.now) _ c.if-out-lt55.false (sym c.in-Err.ensures) in
    record { refusal = c.number-in-Err.ensures ∙ l.0; left = l.1 }
