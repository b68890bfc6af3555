-- `run::examined` meets its contract: what passes the examination has the content of its years.
use Rattle.std.proofs.Common.{◌≡◌, true, arith}
use Rattle.run_examination.specs.Examined.{is_run}
use Rattle.run_examination.proofs.Examined.{is_kept}
use Rattle.run.proofs.examined.Goals as goal

pub invariant_of-result : goal.invariant_of-result
invariant_of-result c =
    let is : is_run c.args.run.now ≡ true = grind arith in
    record { kept = is_kept _ is }
