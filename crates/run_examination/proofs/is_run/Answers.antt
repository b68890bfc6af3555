-- `run_examination::is_run` meets its contract: it works the run of those years out anew, and compares.
use Rattle.std.proofs.Common.{sym, ap, ◌∙◌}
use Rattle.run_examination.specs.Examined.{same_run, is_run}
use Rattle.run_examination.proofs.Same.{field_by_field}
use Rattle.run_examination.proofs.Examined.{kept_told}
use Rattle.run_examination.proofs.is_run.Goals as goal

pub returns-then-not-can_be_kept : goal.returns-then-not-can_be_kept
unfolding is_run
returns-then-not-can_be_kept c = rw (sym c.can_be_kept.ensures ∙ c.if-not-can_be_kept.true)

pub run_of-rule-requires : goal.run_of-rule-requires
run_of-rule-requires c = (kept_told _ _ _ (sym c.can_be_kept.ensures ∙ c.if-not-can_be_kept.false)).room

pub returns : goal.returns
unfolding is_run
returns c =
    rw (sym c.can_be_kept.ensures ∙ c.if-not-can_be_kept.false) (c.eq.ensures ∙ field_by_field _ _ ∙ ap (same_run _) c.run_of-rule.ensures)
