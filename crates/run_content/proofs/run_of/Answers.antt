-- `run_content::run_of` meets its contract: before each turn the run has the content of the years so far.
use Rattle.std.proofs.Common.{◌≡◌, ap, ◌∙◌, arith}
use Rattle.run_content.specs.Runs.{run_of}
use Rattle.run_content.proofs.Extending.{none_held, still_extendable, one_year_more}
use Rattle.run_content.proofs.run_of.Goals as goal

pub loop-init : goal.loop-init
loop-init c = c.empty_run-run.ensures ∙ none_held _ _

pub with_next-requires : goal.with_next-requires
with_next-requires c = still_extendable _ _ c.loop.counter c.loop.invariant _ c.requires c.loop-test.true

pub loop-preserved : goal.loop-preserved
loop-preserved c = one_year_more _ _ c.loop.counter c.loop.invariant c.with_next.ensures

pub returns : goal.returns
returns c =
    let all : c.loop.counter ≡ c.args.years = omega (arith, c.loop.auto.counter-end, c.loop-test.false) in
    c.loop.invariant ∙ ap (run_of _ _) all
