-- `sieveflicker::sf_read_record` meets its contract: refused before a number is written, or the five fields are written.
use Rattle.std.proofs.Common.{refl, sym, ◌∙◌}
use Rattle.record_fields.specs.Tagged.{numbers_of}
use Rattle.sieveflicker.proofs.Written.{fields_follow, too_short, passed_on, stored}
use Rattle.sieveflicker.proofs.sf_read_record.Goals as goal

pub returns-then-out-lt5 : goal.returns-then-out-lt5
returns-then-out-lt5 c =
    let l = too_short (fields_follow c.args.bytes.now c.args.out.now) c.if-out-lt5.true in
    record { refusal = c.number.ensures ∙ l.0; left = l.1 }

pub returns-in-Ok : goal.returns-in-Ok
unfolding numbers_of
returns-in-Ok c =
    let l = stored (fields_follow c.args.bytes.now c.args.out.now) _ _ c.if-out-lt5.false (sym c.in-Ok.ensures) refl c.put_fields.ensures in
    record { refusal = l.0; left = l.1 }

pub returns-in-Err : goal.returns-in-Err
returns-in-Err c =
    let l = passed_on (fields_follow c.args.bytes.now c.args.out.now) _ c.if-out-lt5.false (sym c.in-Err.ensures) in
    record { refusal = c.number-in-Err.ensures ∙ l.0; left = l.1 }
