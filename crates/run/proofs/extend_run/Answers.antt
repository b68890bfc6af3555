-- `run::extend_run` meets its contract: it tests in 01's order, and then adds the year.
use Rattle.std.proofs.Common.{refl, sym, ◌∙◌, arith}
use Rattle.std.proofs.lemmas.Result.{err_from_is_err_and}
use borrow.Author.Tests.{lt-ltb}
use Rattle.run_examination.proofs.Examined.{is_kept}
use Rattle.run.proofs.Refusals.{extend_given, extend_refused_11, extend_refused_2}
use Rattle.run.proofs.Steps.{found_run, refused_run, year_alone, can_extend}
use Rattle.run.proofs.extend_run.Goals as goal

pub returns-in_err-examined : goal.returns-in_err-examined
returns-in_err-examined c =
    let p = err_from_is_err_and c.from_residual.result c.from_residual.ensures.1 in
    let none = refused_run c.args.run.now c.in_err-examined.ensures in
    rw (p.1, p.2, none.1, (extend_refused_11 _).if none.0) (record { refusal = refl; left = refl })

pub returns-then-not-is_covered : goal.returns-then-not-is_covered
returns-then-not-is_covered c =
    let run = found_run c.args.run.now c.in_ok-examined.ensures in
    rw ((extend_refused_2 _).if (run, year_alone (is_kept _ run) _ (sym c.is_covered.ensures ∙ c.if-not-is_covered.true))) (record { refusal = refl; left = refl })

pub with_next-requires : goal.with_next-requires
with_next-requires c =
    let run = found_run c.args.run.now c.in_ok-examined.ensures in
    let covered = year_alone (is_kept _ run) _ (sym c.is_covered.ensures ∙ c.if-not-is_covered.false) in
    can_extend (is_kept _ run) covered (omega arith)

pub returns : goal.returns
returns c =
    let run = found_run c.args.run.now c.in_ok-examined.ensures in
    let covered = year_alone (is_kept _ run) _ (sym c.is_covered.ensures ∙ c.if-not-is_covered.false) in
    rw (c.with_next.ensures, (extend_given _ _).if ((run, (covered, (lt-ltb _ 14 (omega arith), tt))), refl)) (record { refusal = refl; left = refl })
