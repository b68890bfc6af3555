-- `KeptRun::day_of` meets its contract: it tests in 01's order, and tells the day by the month's place.
use Rattle.std.proofs.Common.{sym, ◌∙◌, arith}
use Rattle.std.proofs.lemmas.Grind.{common_steps}
use Rattle.run_lookup.specs.Room.{HeldYear}
use Rattle.run_lookup.proofs.DayOfDate.{day_there}
use Rattle.run_lookup.proofs.KeptRun.day_of.Goals as goal

pub returns : goal.returns
returns c =
    let held : HeldYear c.args.self.run.now c.args.year = record { kept = c.args.self.kept; holds = grind (arith, common_steps) } in
    c.day_at.ensures ∙ sym (day_there held c.in-Some.ensures _)
