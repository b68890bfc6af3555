-- `sieveflicker::sf_eclipse` meets its contract: refused before a number is written, or the moon's four numbers and the grade's are written.
use Rattle.std.proofs.Common.{refl, sym, ap, ◌∙◌, arith}
use lib.Seq.{sets}
use Rattle.senmyo_node.specs.Answers.{grade_means}
use Rattle.sieveflicker_numbers.specs.Numbers.{grade_numbers}
use Rattle.sieveflicker.proofs.Written.{eclipse_follows, too_short, passed_on, stored}
use Rattle.sieveflicker.proofs.Sizes.{moon_fits}
use Rattle.sieveflicker.proofs.sf_eclipse.Goals as goal

pub returns-then-out-lt8 : goal.returns-then-out-lt8
returns-then-out-lt8 c =
    let at = c.args in
    let l = too_short (eclipse_follows at.calendar at.year at.month at.leap at.out.now) c.if-out-lt8.true in
    record { refusal = c.number.ensures ∙ l.0; left = l.1 }

pub put_moon-requires : goal.put_moon-requires
put_moon-requires c =
    record { fits_places = moon_fits _ _ _ _ _ (sym c.in-Ok.ensures); in_bounds = omega (arith, c.if-out-lt8.false) }

pub returns-in-Ok : goal.returns-in-Ok
returns-in-Ok c =
    let at = c.args in
    let grade = grade_numbers (grade_means c.in-Ok.grade) in
    let l = stored (eclipse_follows at.calendar at.year at.month at.leap at.out.now) _ _ c.if-out-lt8.false (sym c.in-Ok.ensures) refl (c.put_grade.ensures ∙ ap (λ l. sets l 4 grade) c.put_moon.ensures) in
    record { refusal = l.0; left = l.1 }

pub returns-in-Err : goal.returns-in-Err
returns-in-Err c =
    let at = c.args in
    let l = passed_on (eclipse_follows at.calendar at.year at.month at.leap at.out.now) _ c.if-out-lt8.false (sym c.in-Err.ensures) in
    record { refusal = c.number-in-Err.ensures ∙ l.0; left = l.1 }
