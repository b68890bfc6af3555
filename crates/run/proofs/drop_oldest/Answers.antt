-- `run::drop_oldest` meets its contract: it tests in 01's order, and then drops the year.
use Rattle.std.proofs.Common.{refl, arith}
use Rattle.std.proofs.lemmas.Result.{err_from_is_err_and}
use borrow.Author.Tests.{lt-ltb}
use Rattle.run_content.proofs.Dropping.{droppable}
use Rattle.run_examination.proofs.Examined.{is_kept}
use Rattle.run.proofs.Refusals.{drop_given, drop_refused_11}
use Rattle.run.proofs.Steps.{found_run, refused_run}
use Rattle.run.proofs.drop_oldest.Goals as goal

pub returns-in_err-examined : goal.returns-in_err-examined
returns-in_err-examined c =
    let p = err_from_is_err_and c.from_residual.result c.from_residual.ensures.1 in
    let none = refused_run c.args.run.now c.in_err-examined.ensures in
    rw (p.1, p.2, none.1, (drop_refused_11 _).if none.0) (record { refusal = refl; left = refl })

pub without_oldest-requires : goal.without_oldest-requires
without_oldest-requires c = droppable (is_kept _ (found_run c.args.run.now c.in_ok-examined.ensures)) (omega arith)

pub returns : goal.returns
returns c =
    rw (c.without_oldest.ensures, (drop_given _ _).if ((found_run c.args.run.now c.in_ok-examined.ensures, (lt-ltb 1 _ (omega arith), tt)), refl)) (record { refusal = refl; left = refl })
